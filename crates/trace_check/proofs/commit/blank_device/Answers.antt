use Rattle.trace_check.proofs.SlotsBegun.{blank_of}
use Rattle.trace_check.proofs.commit.blank_device.Goals as goal

pub returns : goal.returns
returns c =
    blank_of c.args.slots c.in_ok-places.places c.in_ok-src.src.items c.in_ok-dst.dst.items c.in_ok-places.ensures (c.in_ok-src.ensures.items_if_clones_equal (λ y h. h))
    (c.in_ok-dst.ensures.items_if_clones_equal (λ y h. h))
