use Rattle.leak_search.proofs.AlikeLists.{moved}
use Rattle.leak_search.proofs.alike.has_old.Goals as goal

pub returns : goal.returns
returns c = λ yes word. moved c.args.by word _ _ _ _ c.as_slice-device.ensures.value c.as_slice-old.ensures.value (c.same_lists.ensures yes word)
