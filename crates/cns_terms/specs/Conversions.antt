-- What shares become in a split or an exchange.
use Rattle.std.specs.Prelude.{ℤ, pos, ◌+ℤ◌, ◌-ℤ◌, ◌*ℤ◌, int_div}
use Rattle.cns_terms.specs.Types.{Price, Ratio}

-- the whole new shares for q old ones, cut towards zero
abbrev pub converted : Ratio → ℤ → ℤ
converted r q = int_div (q *ℤ pos r.new) (pos r.old)

-- what the cut leaves, in parts of a new share; a share has as many as the ratio has old ones
abbrev pub fraction : Ratio → ℤ → ℤ
fraction r q = (q *ℤ pos r.new) -ℤ (converted r q *ℤ pos r.old)

-- the cents in lieu of them, cut towards zero
abbrev pub in_lieu : Ratio → Price → ℤ → ℤ
in_lieu r lieu q = int_div (fraction r q *ℤ pos lieu) (pos r.old)

-- the cents of an exchange: those in lieu, and the cash for each old share
abbrev pub in_exchange : Ratio → Price → Price → ℤ → ℤ
in_exchange r lieu cash q = in_lieu r lieu q +ℤ (q *ℤ pos cash)
