use Rattle.cns_day.proofs.Common.{ℕ, rules, nat_cmp, state_of, shorts_among, Aged}
use Rattle.std.specs.declared.cmp.Reverse.{Reverse}
use Rattle.cns_day.proofs.Figured.{sorted_by_key}
use Rattle.cns_day.proofs.shorts.shorts_of.Goals as goal

pub returns : goal.returns
returns c =
    let sort = c.in_ok-sort_by_key.ensures in
    let key : Aged → Reverse ℕ = λ s. record { 0 = s.age } in
    let o = sorted_by_key key (λ a b. nat_cmp b.0 a.0) c.in_ok-shorts.shorts.items c.sort_by_key.new.self.items (shorts_among (state_of c.args.book.now.log) c.args.sheet.now.rows)
    c.in_ok-shorts.ensures sort.permutation sort.sorted sort.stable (λ a r f' k. search rules) in
    record { same = o.same; rising = o.rising; stable = o.stable }
