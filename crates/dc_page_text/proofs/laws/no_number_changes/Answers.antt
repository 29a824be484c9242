use Rattle.dc_page_text.proofs.Numbers.{grouped-read, tenths-read, hundredths-read, thousandths-read, millionths-read}
use Rattle.dc_page_text.proofs.laws.no_number_changes.Goals as goal

pub returns-clause-whole : goal.returns-clause-whole
returns-clause-whole c = grouped-read

pub returns-clause-tenths : goal.returns-clause-tenths
returns-clause-tenths c = tenths-read

pub returns-clause-hundredths : goal.returns-clause-hundredths
returns-clause-hundredths c = hundredths-read

pub returns-clause-thousandths : goal.returns-clause-thousandths
returns-clause-thousandths c = thousandths-read

pub returns-clause-millionths : goal.returns-clause-millionths
returns-clause-millionths c = millionths-read
