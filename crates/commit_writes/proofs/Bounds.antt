-- What follows from a commit's bound, and from its first words.
use Rattle.tcam_device.proofs.Spans.{wide_from_tight}
use Rattle.commit_writes.specs.Bits.{bits_with, new_bits}
use Rattle.commit_writes.specs.Bounds.{TightIsWithin, WordsLeaveSlots}
use Rattle.commit_writes.proofs.TableWords.{words_written}

pub tight_within : TightIsWithin
tight_within chain made within = wide_from_tight chain made within

pub words_leave : WordsLeaveSlots
words_leave mode bits rules batch state = (words_written state (new_bits bits (bits_with mode rules batch bits))).slots
