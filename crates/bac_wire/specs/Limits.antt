-- The limits of frames and of regions. The code has constants with the same numbers.
use Rattle.std.specs.Prelude.{ℕ}

-- The octets that a frame has room for: 1476 of the longest APDU that a device can announce (ANSI/ASHRAE 135,
-- 20.1.2.5), at most 17 of the headers before it, and four more.
abbrev pub frame_room : ℕ
frame_room = 1497

-- The most opening tags that may be open at once in a region. The tag 3 around a parameter's value (clause 15) does not
-- count.
abbrev pub deepest : ℕ
deepest = 32
