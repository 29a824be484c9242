use Rattle.std.proofs.Common.{◌≤◌, slice_index, sym, subst}
use Rattle.dc_hub.specs.Entries.{backlog_of}
use Rattle.dc_hub.proofs.Marks.{within_cap}
use Rattle.dc_hub.proofs.hub.note.Goals as goal

pub note-requires-clause-mark : goal.note-requires-clause-mark
note-requires-clause-mark c = subst (λ m. m ≤ slice_index c.args.board.now.1 c.args.bus) (sym c.backlog-mark.ensures) (within_cap c.args.board.now.1 c.args.bus (backlog_of c.args.reply.now) c.requires.caps c.requires.bus c.requires.backlog)
