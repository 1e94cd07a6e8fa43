use Rattle.cns_day.proofs.Common.{rules, ℤ, pos, ◌+ℤ◌, get, int_wrap, key_cmp, put_found, w64}
use Rattle.cns_terms.proofs.Common.{exact_keys}
use Rattle.cns_day.proofs.due.Later.add_side.Goals as goal

pub returns : goal.returns
returns c =
    let f : ℤ → ℤ = λ n. int_wrap w64 (n +ℤ c.args.entry.now.shares) in
    put_found key_cmp exact_keys (pos 0) f (get key_cmp c.args.self.now.shares) (get key_cmp c.insert.new.self) _ _ c.in_ok-insert.ensures.updates.0 (search rules)
