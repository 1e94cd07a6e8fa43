-- The names that most proofs of this crate cite, passed on from one place: those of proofs/Common.antt of cns_terms, its types, and this crate's words. Declares nothing.
pub use Rattle.std.proofs.Common.{All, Bool, IsSomeAnd, Less, List, None, Option, Some, [], ap, arith, MatchOption, bytes_eq, cond, drop, eqb, false, filter, find, get_or, get_or-drop, get_or-take, is_eq, is_gt, is_some, leb, length, length-append, length-drop, length-set, length-take, ltb, map, map-id, nat_cmp, option_map, refl, rules, set, slice_get, suc, sym, take, take_at, true, ℕ, ◌&&◌, ◌++◌, ◌+◌, ◌-◌, ◌<◌, ◌==◌, ◌^◌, ◌∙◌, ◌∷◌, ◌≡◌, ◌≤◌}
pub use Rattle.std.proofs.lemmas.List.Elements.{All-head, All-tail, recursion_from_All}
pub use Rattle.std.proofs.lemmas.List.Sorted.{IsNonDecreasingBy-push, IsPartitionedBy-leb, IsPartitionedBy-ltb}
pub use Rattle.std.proofs.lemmas.Option.{gets, slice_get-get_or, slice_get-map}
pub use Rattle.cns_terms.proofs.Common.{AllByRecursion, Cusip, Included, IsPartitionPoint, IsPartitionPoint-from_clause, IsTotalOrder, Journal, Member, Notice, Posting, bytes_eq-Decides, bytes_refl, changed_at, day, each_append, each_weaker, eqb_sym, equal, exact_bytes, execution, first_reached, is_eq-slice_cmp, is_live, list_any, map-append, nat_cmp_total, nat_list_cmp_total, nat_list_eq_equiv, nat_tests, notice, notice_at, notices, ordering_then, position_from, range_contains, receipt, same_issue, shares_executed, slice_cmp, slice_get_read, slice_get_within, stage, tied_itself}
pub use Rattle.std.specs.Option.{option_map_or}
pub use Rattle.std.specs.Prelude.{⊤}
pub use Rattle.cns_terms.specs.Notices.{live_notice, shares_received, stage_by}
pub use Rattle.cns_terms.specs.declared.buy_in.Given.{Given}
pub use Rattle.cns_terms.specs.declared.buy_in.Stage.{Stage}
pub use Rattle.cns_terms.specs.declared.buy_in.Stage.TheVariants.{Ended, Expired, Live, Withdrawn}
pub use Rattle.cns_terms.specs.declared.command.Movement.{Movement}
pub use Rattle.cns_notices.specs.Kept.{kept, kept_notices, received_live}
pub use Rattle.cns_notices.specs.Latest.{HaveSmallMembers, Leads, Numbers, Place, ended_each, in_issue, number_at, numbers_of, place_cmp, place_of}
pub use Rattle.cns_notices.specs.Noticed.{at_stage, brought_to, ended, expired, expired_from, has_received, is_live_of, live_number, new_notice, receives, with_notice, executes, notice_at as kept_at}
pub use Rattle.cns_notices.specs.declared.noticed.Noticed.{Noticed}
