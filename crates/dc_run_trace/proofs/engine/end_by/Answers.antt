use Rattle.dc_run_trace.proofs.engine.end_by.Goals as goal

pub returns-in-Fault-clause-bytes : goal.returns-in-Fault-clause-bytes
returns-in-Fault-clause-bytes g c = rw c.in-Fault.is (rw c.code_of.ensures.text at c.end_at.ensures.bytes)
