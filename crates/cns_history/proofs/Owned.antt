-- Lines that are added one after another.
-- For `add_each_since`, `issues_of` and `add_opened` and `accounts_in` of everywhere.rt; `accounts_on` of folder.rt in cns_page.
use Rattle.cns_history.proofs.Common.{◌≡◌, ◌∙◌, sym, ap, refl, ℕ, ◌+◌, ◌<◌, Bool, false, cond, filter, slice_get, Ok, arith, List, [], ◌∷◌, ◌++◌, Option, None, Some, append-nil, filter_map, map, cons_option, Account, Cusip, Price, prices_above, numbers}
use Rattle.std.specs.Option.{option_to_list}
use Rattle.std.proofs.lemmas.List.{map-id}
use Rattle.std.proofs.lemmas.List.Elements.{filter-append, filter_map-append}
use Rattle.std.proofs.lemmas.List.FromFn.{map-range_with_len_more}
use Rattle.cns_units.specs.Ranges.{within}

-- what two lists give
pub both_given : {X Y : Type 0} (f : X → Option Y) (xs ys : List X) → filter_map f (xs ++ ys) ≡ filter_map f xs ++ filter_map f ys
both_given f xs ys = filter_map-append f xs ys

pub as_list : {X : Type 0} (o : Option X) → cons_option o [] ≡ option_to_list o
as_list o = grind arith

-- all issues are above none
pub all_above : (es : List (Cusip × Price)) → prices_above es None ≡ es
all_above [] = refl
all_above (e ∷ es) = ap (λ xs. e ∷ xs) (all_above es)

-- the first issue of a sheet
pub first_of : (es rest : List (Cusip × Price)) (e : Cusip × Price) → prices_above es None ≡ e ∷ rest → Some e.0 ≡ slice_get (map (λ e. e.0) es) 0
first_of es rest e is = ap (λ es. slice_get (map (λ e. e.0) es) 0) (sym is ∙ all_above es)

-- where it has none
pub none_of : (es : List (Cusip × Price)) → prices_above es None ≡ [] → None ≡ slice_get (map (λ e. e.0) es) 0
none_of es none = ap (λ es. slice_get (map (λ e. e.0) es) 0) (sym none ∙ all_above es)

-- the first numbers, and the next one
next_number : (n : ℕ) → numbers (n + 1) ≡ numbers n ++ n ∷ []
unfolding numbers
next_number n = simp map-id at (map-range_with_len_more (λ k. k) 0 n n (omega arith))

-- no number yet
pub no_numbers : (p : Account → Bool) → [] ≡ filter p (numbers 0)
unfolding numbers
no_numbers p = refl

pub number_more : (p : Account → Bool) (n : ℕ) → filter p (numbers (n + 1)) ≡ filter p (numbers n) ++ cond (p n) (n ∷ []) []
number_more p n = grind (arith, filter-append, next_number)

-- a number whose account is not among them
pub number_out : (p : Account → Bool) (n a : ℕ) (old : List Account) → old ≡ filter p (numbers n) → a ≡ n → p a ≡ false → old ≡ filter p (numbers (n + 1))
number_out p n a old was is lacks = grind (arith, append-nil, number_more)

-- an account by its number
pub account_is : (n a : ℕ) → n < 10000 → Ok a ≡ within 0 9999 n → a ≡ n
account_is n a few is = grind arith
