-- The limits of what a book holds, in one place.
use Rattle.std.specs.Prelude.{ℕ, ℤ, ◌+◌, ◌*◌, ◌^◌, ◌≤◌}
use Rattle.cns_terms.specs.Sums.{long, short}

-- a member's position, in shares long or short
abbrev pub position_limit : ℕ
position_limit = 10 ^ 10

-- the corporation's position, which makes up for those of 9,999 members
abbrev pub corporation_limit : ℕ
corporation_limit = 10 ^ 14

-- the highest number of a member
abbrev pub member_limit : ℕ
member_limit = 9999

-- the shares of a command
abbrev pub shares_limit : ℕ
shares_limit = 10 ^ 9

-- the cents of a trade
abbrev pub money_limit : ℕ
money_limit = 10 ^ 18

-- the cents that one activity adds to those that are booked and that wait, whatever their signs: an exchange's for 9,999
-- members, and for the corporation
abbrev pub booking_limit : ℕ
booking_limit = 2 * 10 ^ 23

-- there are fewer activities than this
abbrev pub history_limit : ℕ
history_limit = 2 ^ 32

-- the cents of a price
abbrev pub price_limit : ℕ
price_limit = 10 ^ 9

-- no sum of a day's cents, values, marks or dividends is further from zero
abbrev pub amount_limit : ℕ
amount_limit = 10 ^ 34

-- the shares on either side of a ratio
abbrev pub ratio_limit : ℕ
ratio_limit = 10 ^ 4

-- what a dividend pays for a share, in millionths of a dollar
abbrev pub rate_limit : ℕ
rate_limit = 10 ^ 11

-- a member is within its limits: long with the shares that it is to get by trades that wait, and short with those that it is
-- to give
pub record IsWithin (q : ℤ) (bought sold : ℕ) : Type 0 where
  pub above : long q + bought ≤ position_limit
  pub below : short q + sold ≤ position_limit
