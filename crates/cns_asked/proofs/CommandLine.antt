-- What is known of the program's line.
-- For `matches_in` of asked.rt.
use Rattle.std.proofs.Common.{◌≡◌, true, refl}
use Rattle.clap.specs.Words.{is_simple, is_simple_and_free}
use Rattle.clap.proofs.OnLiterals.{clap_on_literals}
use Rattle.cns_asked.specs.Asks.{dated_line, page_line}

-- clap tells of lines of this form what they give
pub line_is_simple : is_simple page_line ≡ true
unfolding page_line dated_line clap_on_literals
line_is_simple = refl

pub line_is_free : is_simple_and_free page_line ≡ true
unfolding page_line dated_line clap_on_literals
line_is_free = refl
