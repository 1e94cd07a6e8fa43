-- A book and a text after lines, and after one more.
-- For `replay_up_to` and `play` of player.rt, `take_all` of loader.rt.
use Rattle.cns_feed.proofs.Common.{◌≡◌, ℕ, ◌+◌, List, [], ◌∷◌, ◌++◌, length, Option, Some, None, refl, sym, ap, ◌∙◌, append_assoc, append-nil, length-append, arith, IfSome, Appends, Keeps, State, sum_by-append, Appends-kept, Appends-nil, Appends-trans, Keeps-refl, Line, Gives, Pending, HasRoomFor, IsUpTo, LeavesAt, Stops, log_after_line, ReplayFault, Records}
use Rattle.cns_book.specs.Log.{Log, state_of}
use Rattle.cns_feed.specs.Output.{Adds, line_text, lines_of, no_counts, response_of, responses, state_after, state_after_line, texts}
use Rattle.cns_feed.specs.Replay.{log_after}
use Rattle.cns_feed.specs.declared.response.Response.{Response}
use Rattle.cns_feed.specs.declared.summary.Summary.{Summary}

-- ---- lines after lines

-- a book after lines, and after others behind them
pub log_after-append : (k : Log) (a b : List Line) → log_after k (a ++ b) ≡ log_after (log_after k a) b
unfolding log_after
log_after-append k [] b = refl
log_after-append k (l ∷ a) b = log_after-append (log_after_line k l) a b

responses-push : (S : State) (a : List Line) (l : Line) → responses S (a ++ l ∷ []) ≡ responses S a ++ response_of (state_after S a) l ∷ []
unfolding responses state_after
responses-push S [] l = refl
responses-push S (k ∷ a) l = ap (λ os. response_of S k ∷ os) (responses-push (state_after_line S k) a l)

texts-push : (S : State) (a : List Line) (l : Line) → texts S (a ++ l ∷ []) ≡ texts S a ++ line_text (state_after S a) l
unfolding texts state_after
texts-push S [] l = append-nil (line_text S l)
texts-push S (k ∷ a) l = ap (λ t. line_text S k ++ t) (texts-push (state_after_line S k) a l) ∙ sym (append_assoc (line_text S k) _ _)

-- the state of a book after lines
pub state_of-after : (k : Log) (ls : List Line) → state_of (log_after k ls) ≡ state_after (state_of k) ls
unfolding log_after state_after
state_of-after k [] = refl
state_of-after k (l ∷ ls) = grind (arith, state_of-after (log_after_line k l) ls)

state_now : (first now : Log) (ls : List Line) → now ≡ log_after first ls → state_of now ≡ state_after (state_of first) ls
state_now first now ls book = ap state_of book ∙ state_of-after first ls

-- ---- counts, and the room that is left

adds-more : (a b c : Summary) (x y : List Response) → Adds a b x → Adds b c y → Adds a c (x ++ y)
adds-more a b c x y p q = grind (arith, sum_by-append)

pub up_to-none : (s : Summary) → s ≡ no_counts → IsUpTo s 0
up_to-none s zero = rw zero (record { commands = omega arith; lines = omega arith; closes = omega arith })

-- the counts after one more line
pub up_to-line : (s t : Summary) (o : Response) (n : ℕ) → Adds s t (o ∷ []) → IsUpTo s n → IsUpTo t (n + 1)
up_to-line s t o n adds le = grind arith

-- and the room
pub room-line : (k more : Log) (l : Line) (n : ℕ) → more ≡ log_after_line k l → HasRoomFor k (n + 1) → HasRoomFor more n
room-line k more l n after room = grind arith

-- ---- record after record of a reader

-- what was read and answered in so many turns, and what is left
pub record Along {R : Type 0} (rem : R → Option (List ℕ)) (rs : Records R) (first now : Log) (s : Summary) (old new : Option (List ℕ)) (turns : ℕ) (all : List Line) : Type 0 where
  pub done : List Line
  pub rest : List Line
  pub whole : all ≡ done ++ rest
  pub pending : Pending rem rs rest
  pub count : length done ≡ turns
  pub book : now ≡ log_after first done
  pub counts : Adds no_counts s (responses (state_of first) done)
  pub text : Appends old new (texts (state_of first) done)

pub along-none : {R : Type 0} (rem : R → Option (List ℕ)) (rs : Records R) (first : Log) (s : Summary) (old : Option (List ℕ)) (all : List Line)
    → s ≡ no_counts → Pending rem rs all → Along rem rs first first s old old 0 all
unfolding log_after responses texts
along-none rem rs first s old all zero p = record {
  done = [];
  rest = all;
  whole = refl;
  pending = p;
  count = refl;
  book = refl;
  counts = rw zero (record { commands = omega arith; lines = omega arith; closes = omega arith });
  text = Appends-nil old;
}

-- one line more, after what was written was flushed
pub along-line : {R : Type 0} (rem : R → Option (List ℕ)) (rs more : Records R) (first now then : Log) (s t : Summary) (old mid flushed new : Option (List ℕ)) (turns : ℕ) (l : Line) (o : Response) (all : List Line)
    → Gives rem rs more l → then ≡ log_after_line now l → o ≡ response_of (state_of now) l → Adds s t (o ∷ []) → Keeps mid flushed → Appends flushed new (line_text (state_of now) l)
    → Along rem rs first now s old mid turns all → Along rem more first then t old new (turns + 1) all
unfolding log_after
along-line rem rs more first now then s t old mid flushed new turns l o all gives after is adds kept text p =
    let (rest, first_is, pending) = gives p.rest p.pending in
    let state = state_now first now p.done p.book in
    record {
      done = p.done ++ l ∷ [];
      rest = rest;
      whole = p.whole ∙ ap (λ x. p.done ++ x) first_is ∙ sym (append_assoc p.done (l ∷ []) rest);
      pending = pending;
      count = omega (arith, length-append p.done (l ∷ []), p.count);
      book = after ∙ ap (λ k. log_after_line k l) p.book ∙ sym (log_after-append first p.done (l ∷ []));
      counts = rw (responses-push (state_of first) p.done l, ← state, ← is) (adds-more no_counts s t _ _ p.counts adds);
      text = rw (texts-push (state_of first) p.done l, ← state) (Appends-trans old flushed new _ _ (Appends-kept old mid flushed _ p.text kept) text);
    }

-- no line was left: as many lines as there were turns, and what they came to
pub along-all : {R : Type 0} (rem : R → Option (List ℕ)) (rs : Records R) (first now : Log) (s : Summary) (old mid new : Option (List ℕ)) (turns : ℕ) (all : List Line)
    → Keeps mid new → ((rest : List Line) → Pending rem rs rest → rest ≡ []) → Along rem rs first now s old mid turns all
    → (length all ≡ turns) × (now ≡ log_after first all) × Adds no_counts s (responses (state_of first) all) × Appends old new (texts (state_of first) all)
along-all rem rs first now s old mid new turns all kept none p =
    let whole : all ≡ p.done = p.whole ∙ ap (λ l. p.done ++ l) (none p.rest p.pending) ∙ append-nil p.done in
    rw whole (p.count, p.book, p.counts, Appends-kept old mid new _ p.text kept)

-- ---- where a replay stops

-- where it stops, and why, where no record waits
abbrev StopsAt : ReplayFault → Option (List ℕ) → Option (List ℕ) → State → List Line → (List Line → Type 0) → Type 0
StopsAt e old new S all Why = (p : Stops e old new S all) × (p.waiting ≡ None → Why p.answered)

-- a fault at the line that was read
pub along-at : {R : Type 0} (rem : R → Option (List ℕ)) (rs more : Records R) (first now : Log) (s : Summary) (e : ReplayFault) (old mid flushed new : Option (List ℕ)) (turns : ℕ) (l : Line) (all : List Line) (Why : List Line → Type 0)
    → Gives rem rs more l → Keeps mid flushed → LeavesAt e flushed new (line_text (state_of now) l) → Along rem rs first now s old mid turns all → StopsAt e old new (state_of first) all Why
along-at rem rs more first now s e old mid flushed new turns l all Why gives kept leaves p =
    let (rest, first_is, pending) = gives p.rest p.pending in (
      record {
        answered = p.done;
        waiting = Some l;
        unread = rest;
        whole = p.whole ∙ ap (λ x. p.done ++ x) first_is;
        mid = flushed;
        written = Appends-kept old mid flushed _ p.text kept;
        leaves = rw (← (state_now first now p.done p.book)) leaves;
      },
      λ none. cc none,
    )

-- a fault between two lines
pub along-between : {R : Type 0} (rem : R → Option (List ℕ)) (rs : Records R) (first now : Log) (s : Summary) (e : ReplayFault) (old mid new : Option (List ℕ)) (turns : ℕ) (all : List Line) (Why : List Line → Type 0)
    → ((done : List Line) → length done ≡ turns → Why done) → Keeps mid new → Along rem rs first now s old mid turns all → StopsAt e old new (state_of first) all Why
along-between rem rs first now s e old mid new turns all Why why kept p = (
  record { answered = p.done; waiting = None; unread = p.rest; whole = p.whole; mid = mid; written = p.text; leaves = kept },
  λ none. why p.done p.count,
)

-- after all lines were answered, at a writer that could not be flushed
pub stops-end : (old mid new : Option (List ℕ)) (S : State) (ls : List Line) → Appends old mid (texts S ls) → Keeps mid new → Stops ReplayFault.Write old new S ls
stops-end old mid new S ls text kept = record { answered = ls; waiting = None; unread = []; whole = sym (append-nil ls); mid = mid; written = text; leaves = kept }

-- out of memory, whatever the input is
pub stops-unread : (old : Option (List ℕ)) (S : State) (known : Option (List ℕ)) → IfSome known (λ input. Stops ReplayFault.NoMemory old old S (lines_of input))
unfolding texts
stops-unread old S None = tt
stops-unread old S (Some input) = record { answered = []; waiting = None; unread = lines_of input; whole = refl; mid = old; written = Appends-nil old; leaves = Keeps-refl old }
