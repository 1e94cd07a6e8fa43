-- An execution: its batch, what it is refused for, and what it leaves.
-- For `check_execution` and `execute` of parts/execution.rt, clauses refused, accepted and step, and `batch` and `batches` of parts/reading.rt.
use Rattle.cns_book.proofs.Common.{◌≡◌, ap, sym, refl, ℕ, ◌+◌, ◌-◌, ◌≤◌, Bool, false, cond, List, ◌∷◌, length, Option, Some, None, arith, ◌==◌, nat_lt, option_map, unsigned_abs, Activity, Contents, Day, ExceedsPosition, Execution, Follows, IsInRange, Journal, Key, NotLive, Notice, Refusal, Rows, Stage, batch_on, books, capped_short, changed_one, charged_on, corporation_limit, entries_by, fills, fills_of, holding_at, is_live, journal, kept_found, notice_at, refusal, remaining_by, room, room_of, stage, with_notice, Given, NotLiable, TooEarly, executed_by, zero, suc, true, ◌||◌, [], ◌++◌, filter, find, map, reverse, slice_get, unwrap_or, Cusip, IsSound, Liable, Liables, at_close, batch, batch_in, batch_since, batches, batches_on, batches_since, bytes_eq-Decides, closings, day, each_found, issues, kept_batches, length-reverse, limited, list_any, nat_tests, option_map_or, reverse-append, same_issue, short, shorts, slice_get-map, position, none_called, Command, map-append, Fill, Posting, charged, eqb_sym, length-map, nat_list_eq_equiv, posting, batch_charged, batch_same, executes_more, kept_at, charged_if, charged_in, Member, map-map, ◌∙◌}
use Rattle.cns_book.proofs.RetransmittalCalls.{remaining_same}
use Rattle.cns_book.proofs.PartsStaying.{rows_booked, in_issue, since_same}
use Rattle.cns_book.proofs.RetransmittalSteps.{uncalled}

module _ (c : Cusip) (fs : List Fill) where
  -- one day more
  charged_push : (n : ℕ) (V : List (List Liables)) (bs : List Liables) → charged_on (V ++ bs ∷ []) (suc n) c fs ≡ charged_on V (suc n) c fs ++ cond (length V == n) (charged_in c fs bs) bs ∷ []
  charged_push n [] bs = grind arith
  charged_push n (x ∷ V) bs = grind (arith, charged_push (n - 1) V bs)

  -- what is changed for the day with a number is the batches of that day, where days are numbered by the closes
  days_charged : (f g : Journal → List Liables) (n : ℕ) → ((K : Journal) → f K ≡ cond (day K == n) (charged_in c fs (g K)) (g K)) → (J : Journal) → map f (reverse (closings J)) ≡ charged_on (map g (reverse (closings J))) n c fs
  days_charged f g n e [] = grind arith
  days_charged f g zero e (p ∷ J) = grind (arith, reverse-append (J ∷ []) (closings J), map-append, e J, days_charged f g zero e J)
  days_charged f g (suc n) e (p ∷ J) = grind (arith, nat_tests, reverse-append (J ∷ []) (closings J), map-append, length-map, length-reverse, e J, charged_push n (map g (reverse (closings J))) (g J), days_charged f g (suc n) e J)

-- fills leave nobody out of a batch
charged_kept : (c : Cusip) (fs : List Fill) (bs : List Liables) → filter (λ b. nat_lt 0 (length b.members)) (map (charged_if c fs) bs) ≡ map (charged_if c fs) (filter (λ b. nat_lt 0 (length b.members)) bs)
charged_kept c fs [] = refl
charged_kept c fs (b ∷ bs) = grind (arith, length-map b.members (charged fs), charged_kept c fs bs)

module _ (opening : Day) (J : Journal) (x : Execution) (k : Notice) (is : notice_at J x.notice ≡ Some k) where
  -- the execution of a notice
  abbrev post : Posting
  post = posting opening J (Activity.Execute x)

  -- the batch of its day in an issue
  one_charged : (K : Journal) (d : Cusip) → (day K == k.given.day) ≡ true → in_issue (batch_since (post ∷ J) K) d ≡ charged_if k.given.issue (fills J x k) (in_issue (batch_since J K) d)
  one_charged K d today = grind (arith, is, eqb_sym k.given.day (day K), batch_charged post J K d x k, batch_same post J K d, nat_list_eq_equiv.symm k.given.issue d)

  all_charged : (K : Journal) (ds : List Cusip) → (day K == k.given.day) ≡ true → map (in_issue (batch_since (post ∷ J) K)) ds ≡ map (charged_if k.given.issue (fills J x k)) (map (in_issue (batch_since J K)) ds)
  all_charged K ds today = (λ i. map (λ d. one_charged K d today i) ds) ∙ sym (map-map (charged_if k.given.issue (fills J x k)) (in_issue (batch_since J K)) ds)

  -- the batches of a day
  day_charged : (K : Journal) → batches_since (post ∷ J) K ≡ cond (day K == k.given.day) (charged_in k.given.issue (fills J x k) (batches_since J K)) (batches_since J K)
  day_charged K = grind (arith, is, eqb_sym k.given.day (day K), all_charged K (issues K), charged_kept k.given.issue (fills J x k) (map (in_issue (batch_since J K)) (issues K)), since_same post J K)

  -- the batches of all closed days
  pub batches_charged : kept_batches (post ∷ J) ≡ charged_on (kept_batches J) k.given.day k.given.issue (fills J x k)
  batches_charged = days_charged k.given.issue (fills J x k) (batches_since (post ∷ J)) (batches_since J) k.given.day day_charged J

-- ---- the closings, the first day's first

-- one item more
get_last : {X : Type 0} (xs : List X) (y : X) (n : ℕ) → slice_get (xs ++ y ∷ []) n ≡ cond (length xs + 1 == suc n) (Some y) (slice_get xs n)
get_last [] y n = grind arith
get_last (x ∷ xs) y n = grind (arith, get_last xs y (n - 1))

-- the close of a day stands at the place before its number
closing_at : (J : Journal) (n : ℕ) → slice_get (reverse (closings J)) n ≡ find (λ K. day K == suc n) (closings J)
closing_at [] n = refl
closing_at (p ∷ J) n = grind (arith, reverse-append (J ∷ []) (closings J), get_last (reverse (closings J)) J n, length-reverse (closings J), closing_at J n)

-- no day has the number 0
no_day_zero : (Ks : List Journal) → find (λ K. day K == 0) Ks ≡ None
no_day_zero [] = refl
no_day_zero (K ∷ Ks) = grind (arith, no_day_zero Ks)

-- the batches of a day
pub on_day : (J : Journal) (n : ℕ) → batches_on (kept_batches J) n ≡ batches J n
on_day J zero = ap (λ o. batches_since J (unwrap_or o [])) (sym (no_day_zero (closings J)))
on_day J (suc n) = grind (arith, slice_get-map (batches_since J) (reverse (closings J)) n, closing_at J n)

-- ---- the batch in an issue

abbrev pub members_of : Option Liables → List Liable
members_of o = option_map_or (λ b. b.members) o []

one_more : (d c : Cusip) (ls ms : List Liable) (rest : List Liables) (b : Bool) → (same_issue d c ≡ true → ls ≡ ms) → members_of (batch_in rest c) ≡ cond b ms [] → members_of (batch_in (cond (nat_lt 0 (length ls)) (record { issue = d; members = ls } ∷ rest) rest) c) ≡ cond (same_issue d c || b) ms []
one_more d c [] ms rest b h1 h2 = grind arith
one_more d c (l ∷ ls) ms rest b h1 h2 = grind (arith, nat_tests)

members_in : (g : Cusip → List Liable) (cs : List Cusip) (c : Cusip) → members_of (batch_in (filter (λ b. nat_lt 0 (length b.members)) (map (in_issue g) cs)) c) ≡ cond (list_any (λ d. same_issue d c) cs) (g c) []
members_in g [] c = refl
members_in g (d ∷ cs) c = one_more d c (g d) (g c) _ _ (λ e. ap g ((bytes_eq-Decides d c).0 e)) (members_in g cs c)

-- a closed day's journal is sound; so is the empty one that stands for a day that is not closed
pub sound_at : (opening : Day) (L : List Activity) (n : ℕ) → Rattle.cns_terms.specs.Reached.IsReached opening L → IsSound (at_close (journal opening L) n)
sound_at opening L n r = each_found IsSound (λ K. day K == n) [] (closings (journal opening L)) (limited opening [] tt).whole.now (limited opening L r).whole.past

-- the members of the batch of a day in an issue
pub batch_members : (L : List Activity) (s : Contents) (n : ℕ) (c : Cusip) → Follows L s → members_of (batch_on s.batches n c) ≡ batch (journal s.opening L) n c
batch_members L s n c f =
    let K = at_close (journal s.opening L) n in
    rw (f.batches, on_day (journal s.opening L) n) (grind (arith, members_in (batch_since (journal s.opening L) K) (issues K) c, uncalled K c (sound_at s.opening L n f.reached), none_called (shorts K c)))

-- how much each member is short
pub shorts_now : (L : List Activity) (s : Contents) (c : Cusip) (a : Member) → Follows L s → ((k : Key) → unsigned_abs (holding_at s.rows k).now ≤ corporation_limit) → capped_short s.rows c a ≡ short (position (journal s.opening L) a c)
shorts_now L s c a f within = grind (arith, within (record { account = a; issue = c }), f.rows (record { account = a; issue = c }))

-- ---- what an execution is refused for

-- of a notice that is there
abbrev pub verdict : Bool → Bool → Bool → Bool → ℕ → Option Refusal
verdict live exceeds early over n = cond live (cond exceeds (Some ExceedsPosition) (cond early (Some TooEarly) (cond over (Some (NotLiable n)) None))) (Some NotLive)

-- no position is beyond its limit
abbrev pub AreShort : Contents → Type 0
AreShort s = (k : Key) → unsigned_abs (holding_at s.rows k).now ≤ corporation_limit

-- the room of a notice, as the parts show it
abbrev pub room_by : Contents → Given → ℕ
room_by s g = room_of (capped_short s.rows g.issue) (members_of (batch_on s.batches g.day g.issue))

pub room_same : (L : List Activity) (s : Contents) (k : Notice) → Follows L s → AreShort s → room_by s k.given ≡ room (journal s.opening L) k
room_same L s k f within i = room_of (λ a. shorts_now L s k.given.issue a f within i) (batch_members L s k.given.day k.given.issue f i)

-- and its fills are those of the definitions
pub fills_same : (L : List Activity) (s : Contents) (x : Execution) (k : Notice) → Follows L s → AreShort s → fills_of (capped_short s.rows k.given.issue) x.shares x.money (members_of (batch_on s.batches k.given.day k.given.issue)) ≡ fills (journal s.opening L) x k
fills_same L s x k f within i = fills_of (λ a. shorts_now L s k.given.issue a f within i) x.shares x.money (batch_members L s k.given.day k.given.issue f i)

-- the refusal by what is read of the notice that it names
pub execute_refusal : (L : List Activity) (s : Contents) (x : Execution) (t : Stage) (g : Given) (r : ℕ) → (1 ≤ x.notice) × (x.notice ≤ length s.notices) → Some t ≡ option_map (λ y. y.stage) (kept_at s.notices x.notice) → Some g ≡ option_map (λ y. y.given) (kept_at s.notices x.notice) → Some r ≡ option_map (remaining_by s.rows) (kept_at s.notices x.notice) → Follows L s → AreShort s
    → refusal s.opening (journal s.opening L) (Command.Activity (Activity.Execute x)) ≡ verdict (is_live t) (nat_lt r x.shares) (nat_lt (s.closes + 1) (g.day + 2)) (nat_lt (room_by s g) x.shares) (room_by s g)
execute_refusal L s x t g r there stage given remains f within = grind (arith, f.notices, kept_found (journal s.opening L) x.notice there.0, remaining_same L s f, room_same L s, f.clock.closes)

-- a notice that isn't live
pub execute_not_live : (L : List Activity) (s : Contents) (x : Execution) (t : Stage) → (1 ≤ x.notice) × (x.notice ≤ length s.notices) → Some t ≡ option_map (λ y. y.stage) (kept_at s.notices x.notice) → is_live t ≡ false → Follows L s → refusal s.opening (journal s.opening L) (Command.Activity (Activity.Execute x)) ≡ Some NotLive
execute_not_live L s x t there stage dead f = grind (arith, f.notices, kept_found (journal s.opening L) x.notice there.0)

pub execute_follows : (L : List Activity) (s : Contents) (x : Execution) (k : Notice) (rows : Rows) → Follows L s → IsInRange (Activity.Execute x) → refusal s.opening (journal s.opening L) (Command.Activity (Activity.Execute x)) ≡ None → 1 ≤ x.notice → notice_at (journal s.opening L) x.notice ≡ Some k
    → ((key : Key) → holding_at rows key ≡ books (entries_by x k.given (fills (journal s.opening L) x k)) key (holding_at s.rows key))
    → Follows (Activity.Execute x ∷ L) (record s { rows = rows; notices = with_notice (executes_more x.shares) x.notice s.notices; batches = charged_on s.batches k.given.day k.given.issue (fills (journal s.opening L) x k) })
execute_follows L s x k rows f range none from_one is booked = grind (arith, is, rows_booked, changed_one, executed_by, batches_charged s.opening (journal s.opening L) x k is)
