use Rattle.overlap_index.proofs.ties.Ties.stand.Goals as goal

pub put-requires-clause-some : goal.put-requires-clause-some
put-requires-clause-some c = c.requires.known c.in-Told.trie c.in-Told.is

pub erase-requires : goal.erase-requires
erase-requires c = c.requires.known c.in-Told.trie c.in-Told.is
