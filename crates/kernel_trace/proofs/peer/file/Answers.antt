use Rattle.kernel_trace.proofs.Room.{files_more, its_known, known_place, own_room}
use Rattle.kernel_trace.proofs.peer.file.Goals as goal

pub file_one-requires-clause-some : goal.file_one-requires-clause-some
file_one-requires-clause-some c =
    (known_place c.loop-index.peers.items c.entry-number.result.0
    (its_known c.args.ready.now c.args.peers.now.items c.loop-index.peers.items c.loop-index.index c.entry-number.result.0
    c.entry-number.result.1.now c.entry-number.result.2 c.entry-number.ensures c.loop-index.invariant).0).0

pub file_one-requires-clause-within : goal.file_one-requires-clause-within
file_one-requires-clause-within c =
    (known_place c.loop-index.peers.items c.entry-number.result.0
    (its_known c.args.ready.now c.args.peers.now.items c.loop-index.peers.items c.loop-index.index c.entry-number.result.0
    c.entry-number.result.1.now c.entry-number.result.2 c.entry-number.ensures c.loop-index.invariant).0).1

pub file_one-requires-clause-room : goal.file_one-requires-clause-room
file_one-requires-clause-room c =
    own_room c.args.ready.now c.args.peers.now.items c.loop-index.peers.items c.loop-index.index c.entry-number.result.0
    c.entry-number.result.1.now c.entry-number.result.2 c.entry-number.ensures c.loop-index.invariant

pub loop-index-preserved : goal.loop-index-preserved
loop-index-preserved c = files_more c.args.ready.now c.args.peers.now.items c.loop-index.peers.items c.loop-index.index
    c.entry-number.result.0 c.entry-number.result.1.now c.entry-number.result.2 c.entry-number.ensures c.loop-index.invariant
    c.file_one.new.peers.items c.file_one.ensures.sent c.file_one.ensures.input c.file_one.ensures.room
