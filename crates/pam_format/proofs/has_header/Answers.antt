-- The line begins with the header, which is all that is compared.
use mathlib.Core.Path.{◌≡◌, sym, ap, ◌∙◌}
use mathlib.Core.List.{List}
use Prim.Native.Nat.{ℕ, ◌≤◌}
use native.Mathlib.Omega.{arith}
use lib.ListN.{length, take}
use lib.Seq.{take-append_seam}
use Rattle.picture.specs.Planes.{laid}
use Rattle.pam_format.specs.Header.{header}
use Rattle.pam_format.specs.Format.{begins_with}
use Rattle.pam_format.proofs.Decimals.{digits_most, length_header}
use Rattle.pam_format.proofs.has_header.Goals as goal
use Rattle.pam_format.proofs.has_header.Goals.{After-write_header-end}

-- the array has room for every header
fits : (w h : ℕ) → length (header w h) ≤ 80
fits w h = omega (arith, length_header w h, digits_most w, digits_most h)

pub write_header-end-requires : goal.write_header-end-requires
write_header-end-requires c = fits _ _

-- what is compared is the header
head_is : (c : After-write_header-end) → let a = c.args in take c.write_header-end.result c.write_header-end.new.line ≡ header a.w a.h
unfolding laid
head_is c =
    let a = c.args in
    rw (c.write_header-end.ensures.0, c.write_header-end.ensures.1) (take-append_seam (header a.w a.h) _)

pub slice_bounds-line-end : goal.slice_bounds-line-end
slice_bounds-line-end c = let a = c.args in omega (arith, c.write_header-end.ensures.0, fits a.w a.h)

pub slice_bounds-starts_with-end : goal.slice_bounds-starts_with-end
slice_bounds-starts_with-end c = c.write_header-end.ensures.0 ∙ ap length (sym (head_is (goal.at.slice_bounds-starts_with-end c).After-write_header-end))

pub starts_with-requires : goal.starts_with-requires
starts_with-requires c = rw (head_is (goal.at.starts_with-requires c).After-write_header-end) c.requires

pub returns : goal.returns
returns c =
    c.starts_with.ensures ∙ ap (λ (head : List ℕ). begins_with head c.args.file.now) (head_is (goal.at.returns c).After-write_header-end)
