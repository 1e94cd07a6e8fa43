use Rattle.cns_book.proofs.Common.{◌≡◌, ◌∙◌, ◌↔◌, sym, ap, subst, true, false, List, Err, IfOk, IfOk-weaker, Activity, AreHolders, Contents, Follows, HasRoom, Key, Member, activity_of, age_brought, books, entries, entries_of, holding_at, is_held_up, is_too_large, issue_of, journal, members, positions_in, with_age, makes}
use Rattle.cns_book.proofs.ActionSteps.{can_be_booked, entries_are, few_wait, held_up_is, holders_are, size_is}
use Rattle.cns_actions.specs.declared.fault.ActionFault.{ActionFault}
use Rattle.cns_book.proofs.parts.Parts.bookings_for.Goals as goal

pub bookings_for-requires-clause-within : goal.bookings_for-requires-clause-within
bookings_for-requires-clause-within g c = can_be_booked _ (subst HasRoom (sym c.self.view_is) c.requires.room)

pub bookings_for-requires-clause-waiting : goal.bookings_for-requires-clause-waiting
bookings_for-requires-clause-waiting g c = rw c.waiting.ensures (few_wait _ (subst HasRoom (sym c.self.view_is) c.requires.room))

pub returns-clause-too_large : goal.returns-clause-too_large
returns-clause-too_large g c L f =
    let f' = subst (Follows L) (sym c.self.view_is) f in
    let both = c.bookings_for.ensures.too_large (members (journal c.self.inside.opening L)) (holders_are _ L f' (issue_of c.args.action.now)) in
    let same = size_is _ L f' c.args.action.now c.waiting.result.now c.waiting.ensures in
    subst (λ (t : Contents). (c.bookings_for.result ≡ Err ActionFault.TooLarge) ↔ (is_too_large t.opening (journal t.opening L) (activity_of c.args.action.now) ≡ true)) c.self.view_is
    ((λ e. sym same ∙ both.0 e), (λ e. both.1 (same ∙ e)))

pub returns-clause-pending : goal.returns-clause-pending
returns-clause-pending g c L f =
    let f' = subst (Follows L) (sym c.self.view_is) f in
    let both = c.bookings_for.ensures.pending (members (journal c.self.inside.opening L)) (holders_are _ L f' (issue_of c.args.action.now)) in
    let same = size_is _ L f' c.args.action.now c.waiting.result.now c.waiting.ensures in
    let held = held_up_is _ L f' c.args.action.now c.waiting.result.now c.waiting.ensures in
    subst (λ (t : Contents). (c.bookings_for.result ≡ Err ActionFault.PendingTrades) ↔ ((is_too_large t.opening (journal t.opening L) (activity_of c.args.action.now) ≡ false) × (is_held_up t.opening (journal t.opening L) c.args.action.now ≡ true))) c.self.view_is
    ((λ e. let p = both.0 e in (sym same ∙ p.0, sym held ∙ p.1)), (λ e. both.1 (same ∙ e.0, held ∙ e.1)))

pub returns-clause-booked : goal.returns-clause-booked
returns-clause-booked g c =
    let s = c.args.self.now in let x = c.args.action.now in let R = s.rows in
    IfOk-weaker c.bookings_for.result
    (λ b. (ms : List Member) → AreHolders (positions_in R (issue_of x)) ms → (k : Key) → makes b k (holding_at R k) ≡ with_age (age_brought R x k) (books (entries_of x (positions_in R (issue_of x)) ms) k (holding_at R k)))
    (λ b. (L : List Activity) → Follows L s → (k : Key) → makes b k (holding_at R k) ≡ with_age (age_brought R x k) (books (entries s.opening (journal s.opening L) (activity_of x)) k (holding_at R k)))
    (λ b h L f k. h (members (journal s.opening L)) (holders_are s L f (issue_of x)) k ∙ ap (λ es. with_age (age_brought R x k) (books es k (holding_at R k))) (entries_are s L f x))
    (subst (λ (t : Contents). IfOk c.bookings_for.result (λ b. (ms : List Member) → AreHolders (positions_in t.rows (issue_of x)) ms → (k : Key) → makes b k (holding_at t.rows k) ≡ with_age (age_brought t.rows x k) (books (entries_of x (positions_in t.rows (issue_of x)) ms) k (holding_at t.rows k)))) c.self.view_is c.bookings_for.ensures.booked)
