-- Worked examples, computed from the definitions, whatever the days are. Many more are cases of `cns_cases`.
use Rattle.cns_terms.proofs.Common.{◌≡◌, ◌==◌, if◌then◌else◌, refl, ℕ, ℤ, pos, neg_ℤ, true, false, List, [], ◌∷◌, arith, codes, Activity, Command, Cusip, Day, Liable, answer_to, chosen, fills_of, in_lieu, ints, is_not_after, is_same_day, forerunners, Exchange}
use Rattle.cns_terms.specs.declared.reply.Reply.{Reply}

abbrev apple : Cusip
apple = codes "037833100"

abbrev cisco : Cusip
cisco = codes "17275R102"

abbrev microsoft : Cusip
microsoft = codes "594918104"

-- ---- days, the activities from the newest back

abbrev price : ℕ → Activity
price p = Activity.Price (record { issue = apple; price = p })

abbrev deliver : ℕ → ℕ → Activity
deliver m n = Activity.Deliver (record { member = m; issue = apple; shares = n })

-- what stands at an account's place
abbrev position : ℕ → Command
position a = Command.Position (record { account = a; issue = apple })

abbrev held : ℕ → ℤ → ℤ → ℤ → ℕ → Reply
held a now opening contract run = Reply.Held (record { contract = contract; position = now; opening = opening; age = run; key = record { account = a; issue = apple } })

abbrev stated : ℕ → Day → ℕ → ℤ → Reply
stated a d rows mark = Reply.Stated (record { account = a; date = d; rows = rows; mark = mark; dividend = pos 0 })

-- a day is itself
same : (d : Day) → is_same_day d d ≡ true
same d = grind (arith, ints)

-- it has come
now : (d : Day) → is_not_after d d ≡ true
now d = grind (arith, ints)

-- a trade of 100 shares for 19,500.00 between two members in an issue
abbrev traded : Day → List Activity
traded d =
    Activity.Trade (record { reference = 1; money = 1950000; shares = 100; buyer = 101; seller = 202; date = d; issue = apple })
    ∷ Activity.Issue (record { issue = apple; price = 19500 }) ∷ Activity.Member 202 ∷ Activity.Member 101 ∷ []

the_buyers_position : (d : Day) → answer_to d (traded d) (position 101) ≡ held 101 (pos 100) (pos 0) (neg_ℤ (pos 1950000)) 0
the_buyers_position d = rw (now d) refl

the_sellers_position : (d : Day) → answer_to d (traded d) (position 202) ≡ held 202 (neg_ℤ (pos 100)) (pos 0) (pos 1950000) 0
the_sellers_position d = rw (now d) refl

-- a trade ahead of its date is booked by the close that opens the day
nothing_is_booked_yet : (d e : Day) → is_not_after e d ≡ false → answer_to d (traded e) (position 101) ≡ held 101 (pos 0) (pos 0) (pos 0) 0
nothing_is_booked_yet d e ahead = rw ahead refl

booked_on_its_date : (d e : Day) → is_not_after e d ≡ false → answer_to d (Activity.Close e ∷ traded e) (position 101) ≡ held 101 (pos 100) (pos 0) (neg_ℤ (pos 1950000)) 0
booked_on_its_date d e ahead = rw (ahead, now e) refl

-- the price rises by a dollar before the close
abbrev priced : Day → List Activity
priced d = price 19600 ∷ traded d

the_first_close : (d e : Day) → is_not_after e d ≡ false → answer_to d (priced d) (Command.Activity (Activity.Close e)) ≡ Reply.Closed (record { day = 1; date = d; rows = 2; liable = 0 })
the_first_close d e later = rw (later, now d) refl

the_buyer_gains : (d e : Day) → answer_to d (Activity.Close e ∷ priced d) (Command.Statement 101 d) ≡ stated 101 d 1 (pos 10000)
the_buyer_gains d e = rw (same d, now d) refl

a_short_grows_old : (d e : Day) → answer_to d (Activity.Close e ∷ priced d) (position 202) ≡ held 202 (neg_ℤ (pos 100)) (neg_ℤ (pos 100)) (pos 0) 1
a_short_grows_old d e = rw (now d) refl

-- the price falls by a dollar on the second day; the corporation owes on what was delivered to it
the_corporations_mark : (d e f : Day) → answer_to d (Activity.Close f ∷ price 19500 ∷ deliver 202 100 ∷ Activity.Close e ∷ priced d) (Command.Statement 0 e) ≡ stated 0 e 1 (neg_ℤ (pos 1950000))
the_corporations_mark d e f = rw (same e, now d) refl

-- ---- splits, exchanges and buy-ins

-- a short rest of a split of 3 for 2, with $130.01 for a whole share, owes half of a share's cents, cut
a_short_rest : in_lieu (record { new = 3; old = 2 }) 13001 (neg_ℤ (pos 101)) ≡ neg_ℤ (pos 6500)
a_short_rest = refl

-- an issue for another, share for share
abbrev exchange : Cusip → Cusip → Exchange
exchange c d = record { old = c; successor = d; ratio = record { new = 1; old = 1 }; lieu = 0; cash = 0 }

-- of a chain of exchanges all that came before
of_a_chain : forerunners 2 (exchange cisco apple ∷ exchange microsoft cisco ∷ []) apple ≡ cisco ∷ microsoft ∷ []
of_a_chain = refl

abbrev liable : ℕ → ℕ → ℕ → Liable
liable a shares age = record { member = a; age = age; closing = shares; left = shares }

-- 80 shares take the oldest short, and the whole group of the next age
abbrev batch : List Liable
batch =
    chosen (record { member = 2; shares = 60; age = 3 } ∷ record { member = 3; shares = 50; age = 2 } ∷ record { member = 4; shares = 40; age = 2 }
    ∷ record { member = 5; shares = 70; age = 1 } ∷ []) 80

whole_groups : batch ≡ liable 2 60 3 ∷ liable 3 50 2 ∷ liable 4 40 2 ∷ []
whole_groups = refl

-- an execution of 80 shares for $1,600.01 fills the oldest first, and its cents are cut so that they add up
filled_in_order : fills_of (λ a. if a == 2 then 60 else (if a == 3 then 50 else 40)) 80 160001 batch
    ≡ record { member = 2; shares = 60; cents = 120000 } ∷ record { member = 3; shares = 20; cents = 40001 } ∷ []
filled_in_order = refl
