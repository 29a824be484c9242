use Rattle.std.proofs.Common.{arith}
use Rattle.std.proofs.lemmas.Str.{IsUtf8-string_bytes}
use Rattle.dc_cert.specs.NamedRows.{named_rows}
use Rattle.dc_cert.proofs.PrintingLemmas.{text_is}
use Rattle.dc_cert.proofs.RoundTrip.{reads_back}
use Rattle.dc_cert.proofs.print.cert_text.Goals as goal

pub returns-clause-text : goal.returns-clause-text
returns-clause-text c =
    text_is (named_rows c.args.certificate.now) _ _ _ _ c.in_ok-value.ensures.value c.in_ok-text.ensures.text c.in_ok-push.ensures.bytes (c.in_ok-push.ensures.ascii (omega arith))

pub returns-clause-reads_back : goal.returns-clause-reads_back
returns-clause-reads_back c =
    reads_back (named_rows c.args.certificate.now) _ _ _ c.in_ok-value.ensures.value c.in_ok-text.ensures.text c.in_ok-text.ensures.reads_back
    (text_is (named_rows c.args.certificate.now) _ _ _ _ c.in_ok-value.ensures.value c.in_ok-text.ensures.text c.in_ok-push.ensures.bytes (c.in_ok-push.ensures.ascii (omega arith)))
    (IsUtf8-string_bytes c.push.new.self) c.in_ok-value.ensures.fits
