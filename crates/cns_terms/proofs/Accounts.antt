-- How often an account stands among the accounts.
use Rattle.cns_terms.proofs.Facts.{◌≡◌, ℕ, ◌+◌, ◌≤◌, ℤ, pos, Bool, true, false, cond, ◌&&◌, ◌==◌, List, [], ◌∷◌, refl, arith, account_lt, list_any, total, put, same_put}

-- how often a number stands in a list
abbrev pub occurs : ℕ → List ℕ → ℕ
occurs a [] = 0
occurs a (b ∷ bs) = cond (a == b) 1 0 + occurs a bs

-- a member put in order stands once more
pub occurs-put : (a m : ℕ) (ms : List ℕ) → occurs a (put account_lt m ms) ≡ cond (a == m) 1 0 + occurs a ms
occurs-put a = same_put (occurs a) (λ b n. cond (a == b) 1 0 + n) (λ b bs. refl) (λ b c n. omega arith) account_lt

-- what a search finds stands there, and what it does not find does not
pub occurs_found : (a : ℕ) (bs : List ℕ) → list_any (λ b. a == b) bs ≡ true → 1 ≤ occurs a bs
occurs_found a [] h = cc
occurs_found a (b ∷ bs) h = grind (arith, occurs_found a bs)

pub occurs_missing : (a : ℕ) (bs : List ℕ) → list_any (λ b. a == b) bs ≡ false → occurs a bs ≡ 0
occurs_missing a [] h = refl
occurs_missing a (b ∷ bs) h = grind (arith, occurs_missing a bs)

-- a number given to one account of a list in which it doesn't stand, and in which it stands once
absent : (a : ℕ) (k : Bool) (v : ℤ) (bs : List ℕ) → occurs a bs ≡ 0 → total (λ b. cond ((a == b) && k) v (pos 0)) bs ≡ pos 0
absent a k v [] h = refl
absent a k v (b ∷ bs) h = grind (arith, absent a k v bs)

pub given_once : (a : ℕ) (k : Bool) (v : ℤ) (bs : List ℕ) → occurs a bs ≡ 1 → total (λ b. cond ((a == b) && k) v (pos 0)) bs ≡ cond k v (pos 0)
given_once a k v [] h = absurd (omega arith)
given_once a k v (b ∷ bs) h = grind (arith, absent a k v bs, given_once a k v bs)
