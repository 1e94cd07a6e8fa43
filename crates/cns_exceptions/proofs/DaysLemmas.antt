-- The days that records close.
-- For `days_of` of days.rt.
use Rattle.cns_exceptions.proofs.Common.{◌≡◌, ℕ, ◌+◌, List, [], ◌∷◌, ◌++◌, Option, None, Some, refl, ap, ◌∙◌, sym, append_assoc, append-nil, arith, length, length-append, inl, inr, map, map-append, take, State, Line, state_after_line, Command, state_after}
use Rattle.std.specs.Prelude.{unwrap_or, Ok, Err, is_some, if◌then◌else◌}
use Rattle.std.proofs.Math.Seq.{take-append_seam}
use Rattle.cns_terms.specs.Common.{Day, date, day, journal_of, opened}
use Rattle.cns_feed.specs.Records.{Pending}
use Rattle.cns_feed.specs.declared.records.Records.{Records}
use Rattle.cns_exceptions.specs.declared.days.Close.{Close}
use Rattle.cns_exceptions.specs.declared.days.Days.{Days}
use Rattle.cns_exceptions.specs.Days.{AreDays, EndsWith, ReadsDay, closed_at, closed_in, ended, next_day}

-- what a record does to the open day
pub record Turned (n : ℕ) (S T : State) (l : Line) (o : Option Day) : Type 0 where
  pub dated : date T.opening (journal_of T) ≡ unwrap_or o (date S.opening (journal_of S))
  pub numbered : day (journal_of T) ≡ day (journal_of S) + (if is_some o then 1 else 0)
  pub closed : closed_at n S l ≡ (if is_some o then record { day = day (journal_of S); date = date S.opening (journal_of S); number = n } ∷ [] else [])

pub turned : (n : ℕ) (S : State) (l : Line) → Turned n S (state_after_line S l) l (next_day (date S.opening (journal_of S)) l)
turned n S (Err f) = record { dated = refl; numbered = omega arith; closed = refl }
turned n S (Ok (Command.Position k)) = grind arith
turned n S (Ok (Command.Statement a d)) = grind arith
turned n S (Ok (Command.Activity x)) = grind arith

-- what records close and others behind them
closed_in-append : (n : ℕ) (S : State) (a b : List Line) → closed_in n S (a ++ b) ≡ closed_in n S a ++ closed_in (n + length a) (state_after S a) b
unfolding closed_in state_after
closed_in-append n S [] b = ap (λ m. closed_in m S b) (omega arith)
closed_in-append n S (l ∷ a) b = grind (arith, append_assoc, closed_in-append (n + 1) (state_after_line S l) a b)

-- how far a read of lines has come: those that were read, one in each turn, the open day after them and the days that they closed, and
-- those that are left
pub record Gone {R : Type 0} (rem : R → Option (List ℕ)) (rs : Records R) (opening today : Day) (number : ℕ) (closes : List Close) (turns : ℕ) (all : List Line) : Type 0 where
  pub done : List Line
  pub rest : List Line
  pub whole : all ≡ done ++ rest
  pub left : Pending rem rs rest
  pub count : length done ≡ turns
  pub dated : let T = state_after (opened opening) done in today ≡ date T.opening (journal_of T)
  pub numbered : number ≡ day (journal_of (state_after (opened opening) done))
  pub closed : map ended closes ≡ closed_in 0 (opened opening) done

-- before any
pub gone_none : {R : Type 0} (rem : R → Option (List ℕ)) (rs : Records R) (opening : Day) (closes : List Close) (all : List Line)
    → closes ≡ [] → Pending rem rs all → Gone rem rs opening opening 1 closes 0 all
unfolding state_after closed_in
gone_none rem rs opening closes all none left =
    record { done = []; rest = all; whole = refl; left = left; count = refl; dated = refl; numbered = refl; closed = ap (map ended) none }

-- the state after one line more
state_after-push : (S : State) (a : List Line) (l : Line) → state_after S (a ++ l ∷ []) ≡ state_after_line (state_after S a) l
unfolding state_after
state_after-push S [] l = refl
state_after-push S (k ∷ a) l = state_after-push (state_after_line S k) a l

-- the next line
gone_line : {R : Type 0} (rem : R → Option (List ℕ)) (a b : Records R) (opening today after : Day) (number more : ℕ) (old new : List Close) (o : Option Day) (turns : ℕ) (all : List Line)
    → ReadsDay rem a b today (Some o) → after ≡ unwrap_or o today → more ≡ number + (if is_some o then 1 else 0)
    → map ended new ≡ map ended old ++ (if is_some o then record { day = number; date = today; number = turns + 1 } ∷ [] else [])
    → Gone rem a opening today number old turns all → Gone rem b opening after more new (turns + 1) all
unfolding state_after closed_in
gone_line rem a b opening today after number more old new o turns all (ready, reads) is_then is_more is_new p =
    let (line, rest, first, left, opens) = reads p.rest p.left in
    let S = opened opening in
    let T = state_after S p.done in
    let count = p.count in
    let n : turns + 1 ≡ 0 + length p.done + 1 = omega (arith, count) in
    let said : o ≡ next_day (date T.opening (journal_of T)) line = opens ∙ ap (λ d. next_day d line) p.dated in
    let t = turned (0 + length p.done + 1) T line in
    record {
      done = p.done ++ line ∷ [];
      rest = rest;
      whole = p.whole ∙ ap (λ x. p.done ++ x) first ∙ sym (append_assoc p.done (line ∷ []) rest);
      left = left;
      count = let both = length-append p.done (line ∷ []) in omega (arith, both, count);
      dated = rw (state_after-push S p.done line) (is_then ∙ (λ i. unwrap_or (said i) (p.dated i)) ∙ sym t.dated);
      numbered = rw (state_after-push S p.done line) (is_more ∙ (λ i. p.numbered i + (if is_some (said i) then 1 else 0)) ∙ sym t.numbered);
      closed = is_new
          ∙ (λ i. p.closed i ++ (if is_some (said i) then record { day = p.numbered i; date = p.dated i; number = n i } ∷ [] else []))
          ∙ ap (λ e. closed_in 0 S p.done ++ e) (sym t.closed ∙ sym (append-nil (closed_at (0 + length p.done + 1) T line)))
          ∙ sym (closed_in-append 0 S p.done (line ∷ []));
    }

-- one that closes no day
pub gone_on : {R : Type 0} (rem : R → Option (List ℕ)) (a b : Records R) (opening today : Day) (number : ℕ) (closes : List Close) (turns : ℕ) (all : List Line)
    → ReadsDay rem a b today (Some None) → Gone rem a opening today number closes turns all → Gone rem b opening today number closes (turns + 1) all
gone_on rem a b opening today number closes turns all read p =
    gone_line rem a b opening today today number number closes closes None turns all read refl (omega arith) (sym (append-nil (map ended closes))) p

-- and one that closes one
pub gone_over : {R : Type 0} (rem : R → Option (List ℕ)) (a b : Records R) (opening today next : Day) (number : ℕ) (old new : List Close) (close : Close) (turns : ℕ) (all : List Line)
    → ReadsDay rem a b today (Some (Some next)) → new ≡ old ++ close ∷ [] → ended close ≡ record { day = number; date = today; number = turns + 1 }
    → Gone rem a opening today number old turns all → Gone rem b opening next (number + 1) new (turns + 1) all
gone_over rem a b opening today next number old new close turns all read is told p =
    gone_line rem a b opening today next number (number + 1) old new (Some next) turns all read refl refl (ap (map ended) is ∙ map-append ended old (close ∷ []) ∙ ap (λ e. map ended old ++ e ∷ []) told) p

-- the days of the lines that were read
gone_first : {R : Type 0} (rem : R → Option (List ℕ)) (rs : Records R) (opening today : Day) (number : ℕ) (closes : List Close) (turns : ℕ) (all : List Line)
    → Gone rem rs opening today number closes turns all → map ended closes ≡ closed_in 0 (opened opening) (take turns all)
gone_first rem rs opening today number closes turns all p =
    p.closed ∙ ap (closed_in 0 (opened opening)) (sym ((λ i. take (sym p.count i) (p.whole i)) ∙ take-append_seam p.done p.rest))

-- where no line is left
pub gone_all : {R : Type 0} (rem : R → Option (List ℕ)) (rs : Records R) (opening today : Day) (last : Option Day) (number : ℕ) (closes : List Close) (turns : ℕ) (all : List Line) (d : Days)
    → ReadsDay rem rs rs today None → d.closes.items ≡ closes → d.records ≡ turns → Gone rem rs opening today number closes turns all → AreDays opening last all d
gone_all rem rs opening today last number closes turns all d none is count p =
    let whole : all ≡ p.done = p.whole ∙ ap (λ x. p.done ++ x) (none p.rest p.left) ∙ append-nil p.done in
    record {
      closed = ap (map ended) is ∙ gone_first rem rs opening today number closes turns all p ∙ ap (λ n. closed_in 0 (opened opening) (take n all)) (sym count);
      whole = inl (count ∙ sym p.count ∙ ap length (sym whole));
    }

-- where the day that is the last one was closed
pub gone_to : {R : Type 0} (rem : R → Option (List ℕ)) (rs : Records R) (opening today : Day) (last : Option Day) (number : ℕ) (closes : List Close) (turns : ℕ) (all : List Line) (d : Days)
    → EndsWith last d.closes.items → d.closes.items ≡ closes → d.records ≡ turns → Gone rem rs opening today number closes turns all → AreDays opening last all d
gone_to rem rs opening today last number closes turns all d ends is count p = record {
  closed = ap (map ended) is ∙ gone_first rem rs opening today number closes turns all p ∙ ap (λ n. closed_in 0 (opened opening) (take n all)) (sym count);
  whole = inr ends;
}
