-- The header's length, and the picture's bytes, which fit.
use mathlib.Core.Path.{◌≡◌, ap, ◌∙◌}
use native.Mathlib.Omega.{arith}
use Rattle.picture.specs.Planes.{bytes_of}
use Rattle.picture.specs.Sizes.{full_bytes}
use Rattle.picture.proofs.Sizes.{full_sized, area}
use Rattle.pam_format.proofs.Decimals.{digits_most, length_header}
use Rattle.pam_format.proofs.file_length.Goals as goal
use Rattle.pam_format.proofs.file_length.Goals.{After-bytes}

pub bytes-requires : goal.bytes-requires
bytes-requires c = rw c.full_size.ensures (full_sized _ _ c.requires)

-- they are those of the sides
bytes_are : (c : After-bytes) → let a = c.args in c.bytes.result ≡ bytes_of a.w a.h
bytes_are c = c.bytes.ensures ∙ ap full_bytes c.full_size.ensures

pub overflow_add-result : goal.overflow_add-result
overflow_add-result c =
    let a = c.args in
    omega (arith, length_header a.w a.h, digits_most a.w, digits_most a.h, area (full_sized a.w a.h c.requires), bytes_are c)

pub returns : goal.returns
returns c = rw (c.header_length.ensures, bytes_are c)
