-- The activities to which commands lead.
use Rattle.std.specs.Prelude.{◌≡◌, ◌≤◌, List, [], ◌∷◌, None, ⊤}
use Rattle.cns_terms.specs.Types.{Day, Ratio, Activity, Command}
use Rattle.cns_terms.specs.Entries.{journal}
use Rattle.cns_terms.specs.Limits.{member_limit, money_limit, price_limit, rate_limit, ratio_limit, shares_limit}
use Rattle.cns_terms.specs.Refusals.{refusal}

-- the old shares of a ratio are in their range
abbrev pub IsRatio : Ratio → Type 0
IsRatio r = (1 ≤ r.old) × (r.old ≤ ratio_limit)

-- the values of an activity are in the ranges that commands have, as far as limits rest on them
abbrev pub IsInRange : Activity → Type 0
IsInRange (Activity.Member m) = m ≤ member_limit
IsInRange (Activity.Issue l) = l.price ≤ price_limit
IsInRange (Activity.Trade t) = t.money ≤ money_limit
IsInRange (Activity.Price l) = l.price ≤ price_limit
IsInRange (Activity.Receive m) = m.shares ≤ shares_limit
IsInRange (Activity.Dividend d) = d.rate ≤ rate_limit
IsInRange (Activity.Split s) = IsRatio s.ratio × (s.lieu ≤ price_limit)
IsInRange (Activity.Exchange x) = IsRatio x.ratio × (x.lieu ≤ price_limit) × (x.cash ≤ price_limit)
IsInRange (Activity.Notice m) = m.shares ≤ shares_limit
IsInRange (Activity.Execute x) = (1 ≤ x.shares) × (x.shares ≤ shares_limit) × (x.money ≤ money_limit)
IsInRange _ = ⊤

-- and so are those of a command
abbrev pub IsCommandInRange : Command → Type 0
IsCommandInRange (Command.Activity x) = IsInRange x
IsCommandInRange (Command.Position k) = ⊤
IsCommandInRange (Command.Statement a d) = ⊤

-- each activity is in range, and was not refused after those before it
abbrev pub IsReached : Day → List Activity → Type 0
IsReached opening [] = ⊤
IsReached opening (x ∷ L) = IsInRange x × (refusal opening (journal opening L) (Command.Activity x) ≡ None) × IsReached opening L
