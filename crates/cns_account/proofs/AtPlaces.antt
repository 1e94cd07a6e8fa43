-- Of the lines of movements, those at a place.
-- For `places_are_whole` and `moves_add_up` of laws.rt.
use Rattle.cns_account.proofs.Common.{◌≡◌, ◌∙◌, sym, ap, refl, ℕ, ◌+◌, ◌<◌, Bool, true, false, cond, List, [], ◌∷◌, ◌++◌, filter, filter_map, map, option_map, option_to_list, Option, None, Ok, arith, cons_option, Day, IsWhole, State, answer, date, filter-append, journal_of, next, opened, whole-next, whole_nil, Activity, Holding, Key, Line, state_after_line, booked, booked_since, booking, bookings_at, bookings_since, closing, counted_from, is_movement, lines_at, lines_of, places, standing, stood, HistoryLine, PlacesAreWhole, is_line_at, is_moved, Some, is_nothing, Booking, ◌&&◌, is_open, is_same_day, Command, Watched, Whose, inl, inr, cases_Bool, history}
use Rattle.cns_history.specs.declared.line.Closing.{Closing}
use Rattle.cns_account.proofs.Named.{is_at, at_next, IsSame, more, names}

-- no movement is a close
since_told : (n : ℕ) (S T : State) (x : Activity) (before : List _) → is_movement (Command.Activity x) ≡ true → bookings_since Whose.All n T x (answer S (Command.Activity x)) before ≡ filter_map (booked_since n T x) before
since_told n S T x before is = grind arith

-- the line of what an activity booked at a place, of the states before and after it
abbrev pub line_for : ℕ → State → State → Activity → Key → Option HistoryLine
line_for n S T x k = booked (booking k n (date T.opening (journal_of T)) x (standing S k) (standing T k))

from_same : (S : State) (x : Activity) (h : Holding) → is_movement (Command.Activity x) ≡ true → counted_from h (answer S (Command.Activity x)) ≡ h
from_same S x h is = grind arith

-- what is booked nowhere has no line
same_told : (n : ℕ) (S T : State) (x : Activity) (k : Key) → IsSame k S T → line_for n S T x k ≡ None
same_told n S T x k same = grind arith

-- ---- the lines at a place

one_told : (k q : Key) (b : Booking) (t u : Bool) (lines : List HistoryLine) (more : List Key) (f : Key → Option HistoryLine) → is_line_at k (HistoryLine.Booking b) ≡ u → f q ≡ cond t None (Some (HistoryLine.Booking b))
    → filter (is_line_at k) lines ≡ filter_map f more → filter (is_line_at k) (cons_option (cond t None (Some (HistoryLine.Booking b))) lines) ≡ filter_map f (cond u (q ∷ more) more)
one_told k q b t u lines more f at is h = grind arith

told_at : (k : Key) (n : ℕ) (S T : State) (x : Activity) (ks : List Key) → filter (is_line_at k) (filter_map (booked_since n T x) (map (stood S) ks)) ≡ filter_map (line_for n S T x) (filter (is_at k) ks)
told_at k n S T x [] = refl
told_at k n S T x (q ∷ ks) =
    let b = booking q n (date T.opening (journal_of T)) x (standing S q) (standing T q) in
    one_told k q b (is_nothing b) (is_at k q) (filter_map (booked_since n T x) (map (stood S) ks)) (filter (is_at k) ks) (line_for n S T x) refl refl (told_at k n S T x ks)

none_told : (f : Key → Option HistoryLine) → ((q : Key) → f q ≡ None) → (ks : List Key) → filter_map f ks ≡ []
none_told f none [] = refl
none_told f none (q ∷ ks) = ap (λ o. cons_option o (filter_map f ks)) (none q) ∙ none_told f none ks

there_or_not : (k : Key) (f : Key → Option HistoryLine) (there : Bool) (ks : List Key) → ks ≡ cond there (k ∷ []) [] → (there ≡ false → f k ≡ None) → filter_map f ks ≡ option_to_list (f k)
there_or_not k f there ks once none = grind arith

-- those of a movement at a place are what it booked there
pub movement_at : (k : Key) (n : ℕ) (S : State) (x : Activity) → k.account < 10000 → IsWhole S.opening (journal_of S) → is_movement (Command.Activity x) ≡ true
    → filter (is_line_at k) (bookings_at Whose.All n S (Ok (Command.Activity x))) ≡ option_to_list (line_for n S (next S (Command.Activity x)) x k)
movement_at k n S x few whole is =
    ap (filter (is_line_at k)) (since_told n S (next S (Command.Activity x)) x (map (stood S) (places Whose.All S x)) is) ∙ told_at k n S (next S (Command.Activity x)) x (places Whose.All S x)
    ∙ at_next (λ T. filter_map (line_for n S T x) (filter (is_at k) (places Whose.All S x)) ≡ option_to_list (line_for n S T x k)) S x
    (grind (arith, none_told (line_for n S S x) (λ q. same_told n S S x q (record { shares = refl; cents = refl })) (filter (is_at k) (places Whose.All S x)), same_told n S S x k (record { shares = refl; cents = refl })))
    (λ none. let e = names S x k few whole none is in there_or_not k (line_for n S (more S x) x) e.there _ e.once (λ h. same_told n S (more S x) x k (e.others h)))

-- ---- the lines of a history

-- no movement opens a day
pub movement_stays : (S : State) (x : Activity) → is_movement (Command.Activity x) ≡ true → date S.opening (journal_of (next S (Command.Activity x))) ≡ date S.opening (journal_of S)
movement_stays S x is = grind arith

moved_lines : (d : Day) (b : Booking) (n t m : Bool) (o : Option Closing) → is_moved d (HistoryLine.Booking b) ≡ (t && m)
    → filter (is_moved d) (option_to_list (option_map HistoryLine.Closing o) ++ option_to_list (cond n None (Some (HistoryLine.Booking b)))) ≡ cond t (cond m (option_to_list (cond n None (Some (HistoryLine.Booking b)))) []) []
moved_lines d b n t m o is = grind arith

where_open : (p : HistoryLine → Bool) (b c : Bool) (all here : List HistoryLine) → c ≡ b → filter p all ≡ here → filter p (cond b all []) ≡ cond c here []
where_open p b c all here same is = grind arith

activity_line : (k : Key) (d : Day) (n : ℕ) (S : State) (x : Activity) → k.account < 10000 → IsWhole S.opening (journal_of S)
    → filter (is_line_at k) (lines_of (Watched.Movements d) n S (Ok (Command.Activity x))) ≡ filter (is_moved d) (lines_at k n S (Ok (Command.Activity x)))
activity_line k d n S x few whole =
    let T = next S (Command.Activity x) in let r = answer S (Command.Activity x) in
    rw (moved_lines d (booking k n (date T.opening (journal_of T)) x (counted_from (standing S k) r) (standing T k)) (is_nothing _) (is_open T d) (is_movement (Command.Activity x)) (closing T k n r) refl)
    (elim (cases_Bool (is_movement (Command.Activity x))) [
      | inl is ↦ rw is (where_open (is_line_at k) (is_open S d) (is_open T d) _ _ (ap (λ e. is_same_day e d) (movement_stays S x is))
          (movement_at k n S x few whole is ∙ ap (λ h. option_to_list (booked (booking k n (date T.opening (journal_of T)) x h (standing T k)))) (sym (from_same S x (standing S k) is))))
      | inr is ↦ rw is (grind arith)
    ])

all_lines : (k : Key) (d : Day) (n : ℕ) (S : State) (ls : List Line) → k.account < 10000 → IsWhole S.opening (journal_of S)
    → filter (is_line_at k) (history (Watched.Movements d) n S ls) ≡ filter (is_moved d) (history (Watched.Place k) n S ls)
unfolding history
all_lines k d n S [] few whole = refl
all_lines k d n S (l ∷ ls) few whole = grind (arith, filter-append, activity_line, all_lines k d (n + 1) (state_after_line S l) ls few (grind (arith, whole-next, whole)))

pub places_are_whole : PlacesAreWhole
places_are_whole k opening ls d low = all_lines k d 0 (opened opening) ls (omega arith) whole_nil
