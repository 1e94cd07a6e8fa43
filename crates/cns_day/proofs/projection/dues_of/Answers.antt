use Rattle.cns_day.proofs.Common.{rules, int_cmp}
use Rattle.cns_units.specs.Day.{day_number}
use Rattle.cns_day.proofs.Figured.{sorted_by_key}
use Rattle.cns_day.proofs.projection.dues_of.Goals as goal

pub returns : goal.returns
returns c =
    let sort = c.in_ok-sort_by_key.ensures in
    sorted_by_key (λ d. day_number d.trade.date) int_cmp c.in_ok-trades.trades.items c.sort_by_key.new.self.items _
    c.in_ok-trades.ensures sort.permutation sort.sorted sort.stable (λ a r f' k. search rules)
