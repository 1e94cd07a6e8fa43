-- What booked, in the field's words.
use Rattle.std.specs.Prelude.{ℕ, List, [], ◌∷◌, ◌==◌, if◌then◌else◌}
use Rattle.cns_history.specs.Common.{decimal, Account, Activity, escaped, filled}
use Rattle.cns_terms.specs.declared.action.Exchange.{Exchange}
use Rattle.cns_terms.specs.declared.command.Trade.{Trade}
use Rattle.cns_history.specs.declared.words.TheConstants.{BOUGHT, BUY_IN, DELIVERED, DUE, EXCHANGE, RECEIVED, SOLD, SPLIT}

-- a trade, as an account sees it
abbrev pub trade_text : Account → Trade → List ℕ
trade_text a t =
    if t.buyer == a then filled BOUGHT.now (decimal t.reference ∷ decimal t.seller ∷ [])
    else filled SOLD.now (decimal t.reference ∷ decimal t.buyer ∷ [])

-- an exchange: the issues and the ratio
abbrev pub exchange_text : Exchange → List ℕ
exchange_text x = filled EXCHANGE.now (escaped x.old ∷ escaped x.successor ∷ decimal x.ratio.new ∷ decimal x.ratio.old ∷ [])

-- an activity, for an account at whose place it booked
abbrev pub what_text : Account → Activity → List ℕ
what_text a (Activity.Trade t) = trade_text a t
what_text a (Activity.Deliver m) = filled DELIVERED.now (decimal m.member ∷ [])
what_text a (Activity.Receive m) = filled RECEIVED.now (decimal m.member ∷ [])
what_text a (Activity.Split s) = filled SPLIT.now (decimal s.ratio.new ∷ decimal s.ratio.old ∷ [])
what_text a (Activity.Exchange x) = exchange_text x
what_text a (Activity.Execute x) = filled BUY_IN.now (decimal x.notice ∷ [])
what_text a (Activity.Close d) = DUE.now
what_text a _ = []
