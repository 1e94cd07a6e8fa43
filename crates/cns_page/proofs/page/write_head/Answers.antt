use Rattle.cns_page.specs.Page.{head_text}
use Rattle.cns_page.proofs.page.write_head.Goals as goal

pub returns : goal.returns
unfolding head_text
returns c = rw (c.from.ensures, c.first_of_day.ensures, c.exceptions_of_day.ensures, c.today.ensures, c.page_style.ensures) at c.write_form.ensures
