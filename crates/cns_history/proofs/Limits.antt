-- What stands at a key is within the limits of a book.
-- For `standing` of told.rt.
use Rattle.cns_history.proofs.Common.{◌≤◌, ◌<◌, List, [], ◌∷◌, length, slice_get, unsigned_abs, unwrap_or, arith, Account, AllByRecursion, Cusip, Day, IsReached, Journal, State, amount_limit, closings, corporation_limit, history_limit, journal, journal_of, Activity, Holding, Key, standing}
use Rattle.cns_terms.specs.Positions.{position}
use Rattle.cns_terms.proofs.Amounts.{amounts}
use Rattle.cns_terms.proofs.Reached.{IsLimited, bounded, bounds, limited_past}

-- a position
position_small : (opening : Day) (L : List Activity) (a : Account) (c : Cusip) → IsReached opening L → unsigned_abs (position (journal opening L) a c) ≤ corporation_limit
position_small opening L a c r = grind (arith, (bounds opening L c r).corporation, (bounds opening L c r).members a)

-- the position that the newest of some closes found
found_small : (opening : Day) (Ks : List Journal) (a : Account) (c : Cusip) → AllByRecursion (IsLimited opening) Ks
    → unsigned_abs (position (unwrap_or (slice_get Ks 0) []) a c) ≤ corporation_limit
found_small opening [] a c all = omega arith
found_small opening (K ∷ Ks) a c all = grind (arith, (bounded opening K c all.0).corporation, (bounded opening K c all.0).members a)

-- what stands at a key
pub record IsSmall (h : Holding) : Type 0 where
  pub shares : unsigned_abs h.now ≤ corporation_limit
  pub found : unsigned_abs h.opening ≤ corporation_limit
  pub cents : unsigned_abs h.contract ≤ amount_limit

pub standing_small : (S : State) (k : Key) → IsReached S.opening S.accepted → length S.accepted < history_limit → IsSmall (standing S k)
standing_small S k reached few = grind (arith, position_small S.opening S.accepted k.account k.issue reached, found_small S.opening (closings (journal_of S)) k.account k.issue (limited_past S.opening S.accepted reached), (amounts S.opening S.accepted 0 reached few).open_cents k.account k.issue)
