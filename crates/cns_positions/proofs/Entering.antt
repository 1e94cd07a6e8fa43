-- Keys that are given rows one after another.
-- For `enter` and `enter_all` of flat.rt, `enter` and `enter_all` of tree.rt.
use Rattle.cns_positions.proofs.Common.{◌∙◌, holding_at, is_sorted, key_cmp, arith, ◌≡◌, ◌≢◌, sym, true, List, ℕ, ◌<◌, ◌+◌, length, get_or, take, inl, inr, None, Result, OnErr, Any, Contains, Contains-get_or, Key, Rows, has_row, take_more, Contains-push_cases}
use Rattle.cns_positions.specs.Rows.{row_at}

-- what holds at all holds at an error
pub at_error : {T E P : Type 0} (r : Result T E) → P → OnErr r P
at_error r p = grind arith

-- a key that is not among them is not the one at a place
pub other_key : (keys : List Key) (i : ℕ) (key : Key) → i < length keys → key ≡ get_or keys i key → (k : Key) → ¬ Contains keys k → k ≢ key
other_key keys i key lt is k apart same = apart (rw (same, is) (Contains-get_or keys i key lt))

-- the first keys have rows, in order; others are as they were, and the same stands everywhere
pub record Entered (was now : Rows) (keys : List Key) (i : ℕ) : Type 0 where
  pub sorted : is_sorted key_cmp now ≡ true
  pub there : (k : Key) → Contains (take i keys) k → has_row now k ≡ true
  pub kept : (k : Key) → has_row was k ≡ true → has_row now k ≡ true
  pub others : (k : Key) → ¬ Contains keys k → row_at now k ≡ row_at was k
  pub same : (k : Key) → holding_at now k ≡ holding_at was k

-- and so have one more
pub entered_more : (was old new : Rows) (keys : List Key) (i : ℕ) (key : Key) → i < length keys → key ≡ get_or keys i key → Entered was old keys i → is_sorted key_cmp new ≡ true → has_row new key ≡ true → ((k : Key) → has_row old k ≡ true → has_row new k ≡ true) → ((k : Key) → k ≢ key → row_at new k ≡ row_at old k) → ((k : Key) → holding_at new k ≡ holding_at old k) → Entered was new keys (i + 1)
entered_more was old new keys i key lt is e sorted there kept others same = record {
  sorted = sorted;
  there = λ k h. elim (Contains-push_cases (take i keys) key k (rw (take_more keys i key lt, ← is) at h)) [ inl before ↦ kept k (e.there k before) | inr at ↦ rw (← at) there ];
  kept = λ k h. kept k (e.kept k h);
  others = λ k apart. others k (other_key keys i key lt is k apart) ∙ e.others k apart;
  same = λ k. same k ∙ e.same k;
}

-- the key at a place had no row, where rows stay and it has none now
pub absent_at : (was now : Rows) (keys : List Key) (i : ℕ) (key : Key) → i < length keys → key ≡ get_or keys i key → ((q : Key) → has_row was q ≡ true → has_row now q ≡ true) → row_at now key ≡ None → Any (λ k. row_at was k ≡ None) keys
unfolding row_at
absent_at was now keys i key lt is kept none = (i, key, lt, sym is, grind (arith, kept key))
