use Rattle.std.proofs.Common.{◌≡◌, Err, Ok}
use Rattle.dc_cert.specs.NamedRows.{named_rows}
use Rattle.dc_cert.specs.Reading.{certificate_of}
use Rattle.dc_run_network.specs.Members.{ReadsCertificate}
use Rattle.dc_run_network.specs.lemmas.Halting.{at-known}
use Rattle.dc_run_network.proofs.members.read_accepted.Goals as goal

pub returns-in-Ok-judge-clause-judged : goal.returns-in-Ok-judge-clause-judged
returns-in-Ok-judge-clause-judged g c = λ rows text are known.
    at-known (g.C.Source.state c.args.certificate.now).remaining (λ t. certificate_of t ≡ Ok (named_rows c.in-Ok.certificate)) text c.in-Ok.ensures.read known

pub returns-in-Ok-judge-clause-accepted : goal.returns-in-Ok-judge-clause-accepted
returns-in-Ok-judge-clause-accepted g c = c.in-Ok-judge.ensures.judged

pub returns-in-Ok-judge-clause-said : goal.returns-in-Ok-judge-clause-said
returns-in-Ok-judge-clause-said g c = tt

pub returns-in-Ok-judge-clause-threads : goal.returns-in-Ok-judge-clause-threads
returns-in-Ok-judge-clause-threads g c = tt

pub returns-in-Err-judge-clause-judged : goal.returns-in-Err-judge-clause-judged
returns-in-Err-judge-clause-judged g c = λ rows text are known.
    c.in-Err-judge.ensures.judged rows text are (at-known (g.C.Source.state c.args.certificate.now).remaining (λ t. certificate_of t ≡ Ok (named_rows c.in-Ok.certificate)) text c.in-Ok.ensures.read known)

pub returns-in-Err-judge-clause-accepted : goal.returns-in-Err-judge-clause-accepted
returns-in-Err-judge-clause-accepted g c = tt

pub returns-in-Err-judge-clause-said : goal.returns-in-Err-judge-clause-said
returns-in-Err-judge-clause-said g c = c.in-Err-judge.ensures.said

pub returns-in-Err-judge-clause-threads : goal.returns-in-Err-judge-clause-threads
returns-in-Err-judge-clause-threads g c = c.in-Err-judge.ensures.threads

pub returns-in-Err-clause-judged : goal.returns-in-Err-clause-judged
returns-in-Err-clause-judged g c = λ rows text are known.
    at-known (g.C.Source.state c.args.certificate.now).remaining (λ t. ReadsCertificate t c.read_certificate.new.line.items (Err c.in-Err.halt)) text c.in-Err.ensures.read known rows c.args.written.now are

pub returns-in-Err-clause-accepted : goal.returns-in-Err-clause-accepted
returns-in-Err-clause-accepted g c = tt

pub returns-in-Err-clause-said : goal.returns-in-Err-clause-said
returns-in-Err-clause-said g c = c.in-Err.ensures.said

pub returns-in-Err-clause-threads : goal.returns-in-Err-clause-threads
returns-in-Err-clause-threads g c = λ e. absurd (c.in-Err.ensures.threads e)
