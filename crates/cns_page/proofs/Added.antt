-- Tables that are added to a page, one after another.
-- For `write_exceptions`, `write_positions` and `write_coming` of page.rt; `write_marks`, `write_shorts`, `write_coming` and `write_records` of account.rt.
use Rattle.cns_page.proofs.Common.{◌∙◌, ap, sym, ℕ, ◌+◌, ◌-◌, ◌^◌, min, List, ◌++◌, append_assoc, flat_map-append, fold-append}
use Rattle.cns_tables.specs.Tables.{HasMore, and_rows, texts}
use Rattle.cns_tables.specs.declared.table.Page.{Page}

pub then : (ts us : List (List ℕ × ℕ)) (a b c : Page) → HasMore ts a b → HasMore us b c → HasMore (ts ++ us) a c
then ts us a b c first last = record {
  text = last.text ∙ ap (λ xs. xs ++ texts us) first.text ∙ append_assoc a.text.items (texts ts) (texts us)
      ∙ ap (λ xs. a.text.items ++ xs) (sym (flat_map-append (λ t. t.0) ts us));
  rows = last.rows ∙ ap (λ n. and_rows n us) first.rows ∙ sym (fold-append (λ n t. min (n + t.1) (2 ^ 64 - 1)) a.rows ts us);
}
