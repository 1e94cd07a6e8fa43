use Rattle.cns_page.proofs.Common.{refl, sym, ◌∙◌, on_ok_weaker}
use Rattle.cns_page.proofs.make.make.Goals as goal

pub returns-then-is_folder-clause-page : goal.returns-then-is_folder-clause-page
returns-then-is_folder-clause-page g c =
    let into = sym c.is_folder.ensures ∙ c.if-is_folder.true in
    on_ok_weaker c.keep_day.result (λ h. (_, c.in_ok-source.ensures, rw into refl)) c.keep_day.ensures

pub returns-then-is_folder-clause-kept : goal.returns-then-is_folder-clause-kept
returns-then-is_folder-clause-kept g c =
    let into = sym c.is_folder.ensures ∙ c.if-is_folder.true in
    on_ok_weaker c.keep_day.result (λ h. (_, c.in_ok-source.ensures, rw into (_, c.in_ok-day.ensures, h))) c.keep_day.ensures

pub returns-clause-page : goal.returns-clause-page
returns-clause-page g c =
    let no = sym c.is_folder.ensures ∙ c.if-is_folder.false in
    on_ok_weaker c.write_page.result (λ h. (_, c.in_ok-source.ensures, rw no (_, c.in_ok-page.ensures, rw c.as_slice.ensures.value at h))) c.write_page.ensures

pub returns-clause-kept : goal.returns-clause-kept
returns-clause-kept g c =
    let no = sym c.is_folder.ensures ∙ c.if-is_folder.false in
    on_ok_weaker c.write_page.result (λ h. (_, c.in_ok-source.ensures, rw no refl)) c.write_page.ensures
