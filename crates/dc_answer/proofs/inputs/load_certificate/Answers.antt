use Rattle.dc_cert.specs.Reading.{certificate_of}
use Rattle.dc_answer.specs.Inputs.{LoadsCertificate}
use Rattle.dc_answer.specs.lemmas.Loading.{read_text, refused_certificate}
use Rattle.dc_answer.proofs.inputs.load_certificate.Goals as goal

pub returns-in-Err-clause-certificate : goal.returns-in-Err-clause-certificate
returns-in-Err-clause-certificate g c = refused_certificate _ _ c.in-Err.ensures.text

pub returns-in-Ok-clause-certificate : goal.returns-in-Ok-clause-certificate
returns-in-Ok-clause-certificate g c = read_text _ _ _ (λ text. LoadsCertificate (certificate_of text) c.certificate_in.result) c.as_slice.ensures.value c.in-Ok.ensures.text c.certificate_in.ensures.certificate
