-- Eleven calls add one point each; the last equation comes first.
use Rattle.std.proofs.Common.{refl}
use Rattle.bac_device.specs.{description_of, kind_of, Inner.with_row}
use Rattle.bac_device.proofs.demonstration.demo.Goals as goal

pub returns : goal.returns
unfolding with_row description_of kind_of
returns c =
    rw (
      c.append_row-11.ensures.after,
      c.append_row-10.ensures.after,
      c.append_row-9.ensures.after,
      c.append_row-8.ensures.after,
      c.append_row-7.ensures.after,
      c.append_row-6.ensures.after,
      c.append_row-5.ensures.after,
      c.append_row-4.ensures.after,
      c.append_row-3.ensures.after,
      c.append_row-2.ensures.after,
      c.append_row.ensures.after,
      c.new-device.ensures,
    ) refl
