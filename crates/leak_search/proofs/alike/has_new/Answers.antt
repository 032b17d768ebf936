use Rattle.leak_search.proofs.AlikeLists.{moved}
use Rattle.leak_search.proofs.alike.has_new.Goals as goal

pub returns : goal.returns
returns c = λ yes word. moved c.args.by word _ _ _ _ c.as_slice-device.ensures.value c.as_slice-new.ensures.value (c.same_lists.ensures yes word)
