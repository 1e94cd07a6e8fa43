use Rattle.cns_page.specs.Today.{head_text}
use Rattle.cns_page.proofs.today.write_head.Goals as goal

pub returns : goal.returns
unfolding head_text
returns c = rw (c.today-date.ensures, c.day.ensures, c.records_of_day.ensures, c.exceptions_of_day.ensures, c.page_style.ensures) at c.write_form.ensures
