-- `digit_table` meets its contract: the table in the code passes the test, which is computed.
use Rattle.forms.specs.Joint.{digit}
use Rattle.forms.specs.Residue.{residue}
use Rattle.recode.specs.Body.Table.{table_digit}
use Rattle.recode.proofs.columns.digit_table.Goals as goal

pub returns : goal.returns
unfolding digit residue
returns c = table_digit _ tt
