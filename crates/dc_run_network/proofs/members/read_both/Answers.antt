use Rattle.std.proofs.Common.{Err}
use Rattle.dc_build.specs.Reported.{AreWrittenBy}
use Rattle.dc_cert.specs.NamedRows.{named_rows}
use Rattle.dc_toml.specs.Reading.{tables_of}
use Rattle.dc_run_network.specs.Members.{ReadsTables}
use Rattle.dc_run_network.specs.lemmas.Halting.{at-known, member-is}
use Rattle.dc_run_network.proofs.members.read_both.Goals as goal

pub returns-in-Ok-read_accepted-clause-judged : goal.returns-in-Ok-read_accepted-clause-judged
returns-in-Ok-read_accepted-clause-judged g c = λ rows text one two.
    let are = at-known (g.T.Source.state c.args.tables.now).remaining (λ t. AreWrittenBy (tables_of t) c.in-Ok.written) rows c.in-Ok.ensures.read one in
    member-is rows text c.in-Ok.written (named_rows c.in-Ok-read_accepted.certificate) c.accepted.result c.accepted.ensures.is are (c.in-Ok-read_accepted.ensures.judged rows text are two) c.accepted.ensures.accepted

pub returns-in-Ok-read_accepted-clause-said : goal.returns-in-Ok-read_accepted-clause-said
returns-in-Ok-read_accepted-clause-said g c = tt

pub returns-in-Ok-read_accepted-clause-threads : goal.returns-in-Ok-read_accepted-clause-threads
returns-in-Ok-read_accepted-clause-threads g c = tt

pub returns-in-Err-read_accepted-clause-judged : goal.returns-in-Err-read_accepted-clause-judged
returns-in-Err-read_accepted-clause-judged g c = λ rows text one two.
    c.in-Err-read_accepted.ensures.judged rows text (at-known (g.T.Source.state c.args.tables.now).remaining (λ t. AreWrittenBy (tables_of t) c.in-Ok.written) rows c.in-Ok.ensures.read one) two

pub returns-in-Err-read_accepted-clause-said : goal.returns-in-Err-read_accepted-clause-said
returns-in-Err-read_accepted-clause-said g c = c.in-Err-read_accepted.ensures.said

pub returns-in-Err-read_accepted-clause-threads : goal.returns-in-Err-read_accepted-clause-threads
returns-in-Err-read_accepted-clause-threads g c = c.in-Err-read_accepted.ensures.threads

pub returns-in-Err-clause-judged : goal.returns-in-Err-clause-judged
returns-in-Err-clause-judged g c = λ rows text one two.
    at-known (g.T.Source.state c.args.tables.now).remaining (λ t. ReadsTables t c.read_tables.new.line.items (Err c.in-Err.halt)) rows c.in-Err.ensures.read one text

pub returns-in-Err-clause-said : goal.returns-in-Err-clause-said
returns-in-Err-clause-said g c = c.in-Err.ensures.said

pub returns-in-Err-clause-threads : goal.returns-in-Err-clause-threads
returns-in-Err-clause-threads g c = λ e. absurd (c.in-Err.ensures.threads e)
