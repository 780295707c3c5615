-- Text after text, the line begins with what the header has so far.
use mathlib.Core.List.{◌++◌}
use Prim.Native.Nat.{ℕ, ◌+◌, ◌≤◌}
use native.Mathlib.Omega.{arith}
use lib.ListN.{length, length-append}
use Rattle.pam_format.specs.Header.{bytes, decimal, before_width, before_height, after_height, header}
use Rattle.pam_format.proofs.Decimals.{length_header, length_decimal, length_width, length_height}
use Rattle.pam_format.proofs.Lines.{Begun, begin, more}
use Rattle.pam_format.proofs.write_header.Goals as goal
use Rattle.pam_format.proofs.write_header.Goals.{After-put_text-width, After-put_number-name, After-put_text-height, After-put_number-rest}

-- up to the width
width : (c : After-put_text-width) → Begun before_width c.args.line.now c.put_text-width.result c.put_text-width.new.line
unfolding before_width bytes
width c = more before_width (begin _) c.put_text-width.ensures.0 c.put_text-width.ensures.1

-- with the width
wide : (c : After-put_number-name) → let a = c.args in
    Begun before_width a.line.now c.put_text-width.result c.put_text-width.new.line → Begun (before_width ++ decimal a.w) a.line.now c.put_number-name.result c.put_number-name.new.line
wide c b = more _ b c.put_number-name.ensures.0 c.put_number-name.ensures.1

-- up to the height
height : (c : After-put_text-height) → let a = c.args in
    Begun (before_width ++ decimal a.w) a.line.now c.put_number-name.result c.put_number-name.new.line →
    Begun (before_width ++ decimal a.w ++ before_height) a.line.now c.put_text-height.result c.put_text-height.new.line
unfolding before_height bytes
height c b = more before_height b c.put_text-height.ensures.0 c.put_text-height.ensures.1

-- with the height
high : (c : After-put_number-rest) → let a = c.args in
    Begun (before_width ++ decimal a.w ++ before_height) a.line.now c.put_text-height.result c.put_text-height.new.line →
    Begun (before_width ++ decimal a.w ++ before_height ++ decimal a.h) a.line.now c.put_number-rest.result c.put_number-rest.new.line
high c b = more _ b c.put_number-rest.ensures.0 c.put_number-rest.ensures.1

-- the line has room for all of it
room : (w h n : ℕ) → length (header w h) ≤ n → 63 + length (decimal w) + length (decimal h) ≤ n
room w h n fits = omega (arith, length_header w h, length_decimal w, length_decimal h)

pub put_text-width-requires : goal.put_text-width-requires
put_text-width-requires c = omega (arith, room _ _ _ c.requires)

pub put_number-name-requires : goal.put_number-name-requires
put_number-name-requires c = omega (arith, room _ _ _ c.requires, c.put_text-width.ensures.0, length_decimal c.args.w)

pub put_text-height-requires : goal.put_text-height-requires
put_text-height-requires c = omega (arith, room _ _ _ c.requires, c.put_number-name.ensures.0, c.put_text-width.ensures.0)

pub put_number-rest-requires : goal.put_number-rest-requires
put_number-rest-requires c =
    let at = goal.at.put_number-rest-requires c in
    let b = height at.After-put_text-height (wide at.After-put_number-name (width at.After-put_text-width)) in
    omega (arith, room _ _ _ c.requires, simp (length-append, length_width, length_height) at b.place, length_decimal c.args.h)

pub put_text-requires : goal.put_text-requires
put_text-requires c =
    let at = goal.at.put_text-requires c in
    let b = high at.After-put_number-rest (height at.After-put_text-height (wide at.After-put_number-name (width at.After-put_text-width))) in
    omega (arith, room _ _ _ c.requires, simp (length-append, length_width, length_height) at b.place)

pub returns : goal.returns
unfolding header after_height bytes
returns c =
    let at = goal.at.returns c in
    let b = high at.After-put_number-rest (height at.After-put_text-height (wide at.After-put_number-name (width at.After-put_text-width))) in
    let all = more after_height b c.put_text.ensures.0 c.put_text.ensures.1 in
    (all.place, all.so)
