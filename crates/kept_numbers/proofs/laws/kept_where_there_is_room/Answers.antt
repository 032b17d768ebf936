use Rattle.kept_numbers.proofs.Lists.{kept-where-room}
use Rattle.kept_numbers.proofs.laws.kept_where_there_is_room.Goals as goal

pub returns : goal.returns
returns c = kept-where-room
