use Rattle.std.proofs.Common.{◌≡◌, ◌+◌, ◌/◌, ◌≤◌, length}
use Rattle.std.specs.Iterator.Adapters.{zip_first, zip_second}
use Rattle.srecord.specs.Digits.{bytes_of}
use Rattle.srecord.specs.Load.{stored_data}
use Rattle.srecord.proofs.Loading.{stored_bytes}
use Rattle.srecord.proofs.load.store_data.Given as goal

-- what is left to store leads to all that is stored in the end
abbrev pub invariant-loop-place : goal.invariant-loop-place
invariant-loop-place g l =
    let places = zip_first l.place-iterator in
    let bytes = bytes_of (zip_second l.place-iterator).rest.characters.now in
    (places.end ≡ 65536)
    × (places.start + length bytes ≤ 65536)
    × (stored_bytes (g.B.Bus.cells l.bus) places.start bytes ≡ stored_data (g.B.Bus.cells l.initial.bus) l.address l.digits.characters.now (length l.digits.characters.now / 2))
