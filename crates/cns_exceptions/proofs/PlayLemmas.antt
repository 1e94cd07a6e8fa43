-- A book and what is known of its records, line after line.
-- For `play_with` and `step` of play.rt.
use Rattle.cns_exceptions.proofs.Common.{◌≡◌, ◌<◌, ℕ, ◌+◌, List, [], ◌∷◌, ◌++◌, length, take, Option, refl, sym, ap, ◌∙◌, append_assoc, append-nil, length-append, arith, State, Log, state_of, Line, state_after_line, Pending, log_after_line, log_after-append, state_of-after, Came, Known, Takes, known, noted, replied, wanted, Survey, Command, Watched, state_after, log_after, noted_all, Outcome}
use Rattle.std.proofs.Math.Seq.{take-append_seam}
use Rattle.std.proofs.lemmas.List.{take_all}
use Rattle.cns_terms.specs.declared.reply.Reply.{Reply}
use Rattle.cns_feed.specs.declared.records.Records.{Records}
use Rattle.cns_history.specs.Lines.{history, lines_of}
use Rattle.cns_history.specs.declared.line.HistoryLine.{HistoryLine}

-- records and others behind them
noted_all-append : (k : Known) (S : State) (a b : List Line) → noted_all k S (a ++ b) ≡ noted_all (noted_all k S a) (state_after S a) b
unfolding noted_all state_after
noted_all-append k S [] b = refl
noted_all-append k S (l ∷ a) b = noted_all-append (noted k S l) (state_after_line S l) a b

wanted_records : (k : Known) (w : Outcome) (c : Option Command) → (wanted k w c).records ≡ k.records
wanted_records k w c = grind arith

replied_records : (k : Known) (cmd : Command) (r : Reply) → (replied k cmd r).records ≡ k.records
replied_records k cmd r = grind (arith, wanted_records)

-- a record that is noted is counted
pub noted_records : (k : Known) (S : State) (l : Line) → (noted k S l).records ≡ k.records + 1
noted_records k S l = grind (arith, replied_records, wanted_records)

-- what records tell and others behind them
history-append : (w : Watched) (n : ℕ) (S : State) (a b : List Line) → history w n S (a ++ b) ≡ history w n S a ++ history w (n + length a) (state_after S a) b
unfolding history state_after
history-append w n S [] b = ap (λ m. history w m S b) (omega arith)
history-append w n S (l ∷ a) b = grind (arith, append_assoc, history-append w (n + 1) (state_after_line S l) a b)

-- how far a play of lines has come: those that were taken and noted, one in each turn, what they told, and those that are left
pub record Along {R : Type 0} (rem : R → Option (List ℕ)) (rs : Records R) (w : Watched) (first now : Log) (from : Known) (s : Survey) (told : List HistoryLine) (turns : ℕ) (all : List Line) : Type 0 where
  pub done : List Line
  pub rest : List Line
  pub whole : all ≡ done ++ rest
  pub left : Pending rem rs rest
  pub count : length done ≡ turns
  pub log : now ≡ log_after first done
  pub knows : known s ≡ noted_all from (state_of first) done
  pub tells : told ≡ history w 0 (state_of first) done

-- before any
pub along_none : {R : Type 0} (rem : R → Option (List ℕ)) (rs : Records R) (w : Watched) (first : Log) (s : Survey) (told : List HistoryLine) (all : List Line)
    → told ≡ [] → Pending rem rs all → Along rem rs w first first (known s) s told 0 all
unfolding log_after noted_all history
along_none rem rs w first s told all none left = record { done = []; rest = all; whole = refl; left = left; count = refl; log = refl; knows = refl; tells = none }

-- the next line
pub along_line : {R : Type 0} (rem : R → Option (List ℕ)) (a b : Records R) (w : Watched) (first now then : Log) (from : Known) (s t : Survey) (old new : List HistoryLine) (turns : ℕ) (all : List Line)
    → s.records ≡ turns → ((rest : List Line) → Pending rem a rest → Takes rem b w now then s t old new rest)
    → Along rem a w first now from s old turns all → Along rem b w first then from t new (turns + 1) all
unfolding log_after noted_all history
along_line rem a b w first now then from s t old new turns all turned takes p =
    let one = takes p.rest p.left in
    let state : state_of now ≡ state_after (state_of first) p.done = ap state_of p.log ∙ state_of-after first p.done in
    let count = p.count in
    let number : s.records ≡ 0 + length p.done = omega (arith, turned, count) in
    record {
      done = p.done ++ one.line ∷ [];
      rest = one.rest;
      whole = p.whole ∙ ap (λ x. p.done ++ x) one.first ∙ sym (append_assoc p.done (one.line ∷ []) one.rest);
      left = one.left;
      count = let both = length-append p.done (one.line ∷ []) in omega (arith, both, count);
      log = one.log ∙ ap (λ k. log_after_line k one.line) p.log ∙ sym (log_after-append first p.done (one.line ∷ []));
      knows = one.knows ∙ (λ i. noted (p.knows i) (state i) one.line) ∙ sym (noted_all-append from (state_of first) p.done (one.line ∷ []));
      tells = one.told ∙ (λ i. p.tells i ++ sym (append-nil (lines_of w (number i + 1) (state i) one.line)) i)
          ∙ sym (history-append w 0 (state_of first) p.done (one.line ∷ []));
    }

-- what came of the first lines, so many: of those of so many turns
pub along_came : {R : Type 0} (rem : R → Option (List ℕ)) (rs : Records R) (w : Watched) (first now : Log) (from : Known) (s : Survey) (told : List HistoryLine) (turns : ℕ) (all : List Line)
    → Along rem rs w first now from s told turns all → Came w first now from s told (take turns all)
along_came rem rs w first now from s told turns all p = grind (arith, take, length, take-append_seam, length-append)

-- where no line is left, so many or more
pub along_end : {R : Type 0} (rem : R → Option (List ℕ)) (rs : Records R) (w : Watched) (first now then : Log) (from : Known) (s t : Survey) (old new : List HistoryLine) (turns most : ℕ) (all : List Line)
    → (then ≡ now) × (t ≡ s) × (new ≡ old) × ((rest : List Line) → Pending rem rs rest → rest ≡ []) → turns < most → Along rem rs w first now from s old turns all
    → Came w first then from t new (take most all)
along_end rem rs w first now then from s t old new turns most all (log, survey, lines, none) few p =
    let whole : all ≡ p.done = p.whole ∙ ap (λ ls. p.done ++ ls) (none p.rest p.left) ∙ append-nil p.done in
    let count = p.count in
    rw (log, survey, lines, whole, take_all most p.done (omega (arith, count, few))) (record { log = p.log; knows = p.knows; tells = p.tells })
