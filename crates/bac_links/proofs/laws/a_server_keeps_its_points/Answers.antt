-- Each datagram may order a write, and no write changes a point.
use Rattle.std.proofs.{Common.{[], arith, List, map, None, Option, refl, Some, ◌∙◌, ◌∷◌, ◌≡◌}, lemmas.Bool.cases_Bool}
use Rattle.bac_device.specs.{Arrival, DeviceState, Write, Device.points_of, Places.{put, Standing}}
use Rattle.{bac_device.specs.Reply.{with_write, write_in_datagram}, bac_links.specs.{device_behind, device_next}}
use Rattle.bac_links.proofs.laws.a_server_keeps_its_points.Goals as goal

record Keeps (before after : DeviceState) : Type 0 where
  info : after.info ≡ before.info
  points : points_of after ≡ points_of before

put_point : (write : Write) (standing : Standing) → (put write standing).point ≡ standing.point
put_point write standing = grind (arith, cases_Bool)

put_points : (write : Write) (standings : List Standing)
    → map (λ (s : Standing). s.point) (map (put write) standings) ≡ map (λ (s : Standing). s.point) standings
put_points write [] = refl
put_points write (standing ∷ standings) = grind (arith, put_point, put_points write standings)

written : (device : DeviceState) (write : Option Write) → Keeps device (with_write device write)
written device None = record { info = refl; points = refl }
written device (Some write) = record { info = refl; points = put_points write device.standings }

kept : (device : DeviceState) (arrivals : List Arrival) → Keeps device (device_behind device arrivals)
kept device [] = record { info = refl; points = refl }
kept device (arrival ∷ arrivals) =
    let first = written device (write_in_datagram device arrival.from arrival.datagram) in
    let later = kept (device_next device arrival) arrivals in
    record { info = later.info ∙ first.info; points = later.points ∙ first.points }

pub returns : goal.returns
returns g c = grind (arith, kept)
