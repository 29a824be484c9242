use Rattle.dc_read_back.proofs.Only.{only_printed}
use Rattle.dc_read_back.proofs.laws.only_printed_lines_are_read.Goals as goal

pub returns : goal.returns
returns c = λ tables rows seen text is. only_printed tables rows seen text is
