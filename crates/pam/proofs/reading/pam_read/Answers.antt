-- Each way out is the answer of the check that led there; past both, the file's body is read into the picture's front.
use mathlib.Core.Path.{◌≡◌, sym, ap, ap₂, subst, ◌∙◌}
use mathlib.Core.Bool.{true, false}
use mathlib.Core.List.{List, ◌++◌}
use Prim.Native.Nat.{ℕ, ◌+◌, ◌-◌, ◌≤◌}
use native.Mathlib.Omega.{arith}
use lib.ListN.{length, take, drop, length-append, length-drop}
use lib.Seq.{length-take-le, take_all}
use Rattle.std.proofs.Common.{Ok}
use Rattle.picture.specs.Planes.{bytes_of}
use Rattle.picture.specs.Refusal.{wrong_sides, too_short}
use Rattle.picture.specs.declared.FullSize.{FullSize}
use Rattle.picture.specs.Sizes.{full_size, full_bytes, FullSized}
use Rattle.picture.proofs.Conditions.{long_enough}
use Rattle.picture.proofs.Sizes.{full_sized}
use Rattle.pam_format.specs.Header.{header}
use Rattle.pam_format.specs.Format.{width_in, height_in, is_pam, Pam}
use Rattle.pam_format.proofs.Files.{pam_is}
use Rattle.pam_convert.specs.Straight.{imported}
use Rattle.pam.specs.Import.{pixels_in, import_answer}
use Rattle.pam.proofs.Imports.{no_pam, no_room, read_in_lem, laid_front}
use Rattle.pam_convert.proofs.Recolouring.{length_recoloured}
use Rattle.pam.proofs.reading.pam_read.Goals as goal
use Rattle.pam.proofs.reading.pam_read.Goals.{After-header_length-start}

pub returns-then-not-is_pam : goal.returns-then-not-is_pam
returns-then-not-is_pam c = no_pam _ _ (sym c.is_pam.ensures ∙ c.if-not-is_pam.true)

pub returns-then-too_short : goal.returns-then-too_short
returns-then-too_short c =
    let room : c.too_short.result ≡ too_short (length c.args.picture.now) (width_in c.args.file.now) (height_in c.args.file.now) =
    c.too_short.ensures ∙ ap₂ (too_short (length c.args.picture.now)) c.width_in-w.ensures c.height_in-h.ensures in
    no_room _ _ (sym c.is_pam.ensures ∙ c.if-not-is_pam.false) (sym room ∙ c.if-too_short.true)

pub full_size-size-requires : goal.full_size-size-requires
full_size-size-requires c =
    let pam : is_pam c.args.file.now ≡ true = sym c.is_pam.ensures ∙ c.if-not-is_pam.false in
    ap₂ wrong_sides c.width_in-w.ensures c.height_in-h.ensures ∙ ((pam_is c.args.file.now).0 pam).sides

pub bytes-n-requires : goal.bytes-n-requires
bytes-n-requires c =
    let pam : is_pam c.args.file.now ≡ true = sym c.is_pam.ensures ∙ c.if-not-is_pam.false in
    subst FullSized (sym (c.full_size-size.ensures ∙ ap₂ full_size c.width_in-w.ensures c.height_in-h.ensures)) (full_sized _ _ ((pam_is c.args.file.now).0 pam).sides)

-- past both checks: a PAM file, whose sides were read, and room for them
module _ (c : After-header_length-start) where
  abbrev file : List ℕ
  file = c.args.file.now

  abbrev w : ℕ
  w = width_in file

  abbrev h : ℕ
  h = height_in file

  pam : is_pam file ≡ true
  pam = sym c.is_pam.ensures ∙ c.if-not-is_pam.false

  file_is : Pam file w h
  file_is = (pam_is file).0 pam

  -- what holds of the file's sides holds of those that were read
  of_sides : {A : Type 0} (f : ℕ → ℕ → A) → f c.width_in-w.result c.height_in-h.result ≡ f w h
  of_sides f = ap₂ f c.width_in-w.ensures c.height_in-h.ensures

  enough : too_short (length c.args.picture.now) w h ≡ false
  enough = sym (c.too_short.ensures ∙ of_sides (too_short (length c.args.picture.now))) ∙ c.if-too_short.false

  long : length file ≡ length (header w h) + bytes_of w h
  long = ap length file_is.spelt ∙ length-append (header w h) file_is.body ∙ ap (λ (n : ℕ). length (header w h) + n) file_is.exact

  size_is : c.full_size-size.result ≡ full_size w h
  size_is = c.full_size-size.ensures ∙ of_sides full_size

  sized : FullSized c.full_size-size.result
  sized = subst FullSized (sym size_is) (full_sized _ _ file_is.sides)

  count : c.bytes-n.result ≡ bytes_of w h
  count = c.bytes-n.ensures ∙ ap full_bytes size_is

  begins : c.header_length-start.result ≡ length (header w h)
  begins = c.header_length-start.ensures ∙ of_sides (λ x y. length (header x y))

  fits : c.bytes-n.result ≤ length c.args.picture.now
  fits = omega (arith, count, (long_enough (length c.args.picture.now) w h).0 enough)

  inside : c.header_length-start.result ≤ length file
  inside = omega (arith, begins, long)

  -- what is lent on is the file's body, all of it
  body_is : take (length file - c.header_length-start.result) (drop c.header_length-start.result file) ≡ pixels_in file w h
  body_is =
      take_all (length file - c.header_length-start.result) (drop c.header_length-start.result file) (omega (arith, length-drop c.header_length-start.result file)) ∙ ap (λ (n : ℕ). drop n file) begins

pub slice_bounds-read_body-end : goal.slice_bounds-read_body-end
slice_bounds-read_body-end c = fits (goal.at.slice_bounds-read_body-end c).After-header_length-start

pub slice_bounds-read_body-end-2 : goal.slice_bounds-read_body-end-2
slice_bounds-read_body-end-2 c = sym (length-take-le _ _ (fits (goal.at.slice_bounds-read_body-end-2 c).After-header_length-start))

pub slice_bounds-read_body-count : goal.slice_bounds-read_body-count
slice_bounds-read_body-count c = inside (goal.at.slice_bounds-read_body-count c).After-header_length-start

pub slice_bounds-read_body-start : goal.slice_bounds-read_body-start
slice_bounds-read_body-start c = inside (goal.at.slice_bounds-read_body-start c).After-header_length-start

pub read_body-requires : goal.read_body-requires
read_body-requires c =
    let l = (goal.at.read_body-requires c).After-header_length-start in
    record {
      fact_1 = record {
        sized = sized l;
        exact = ap length (body_is l) ∙ length-drop (length (header (w l) (h l))) (file l) ∙ omega (arith, long l) ∙ sym (ap full_bytes (size_is l));
      };
      fact_2 = length-take-le _ _ (fits l) ∙ c.bytes-n.ensures;
    }

pub returns : goal.returns
returns c =
    let l = (goal.at.returns c).After-header_length-start in
    let new = c.read_body.new.picture ++ drop c.bytes-n.result c.args.picture.now in
    let all = c.read_body.ensures ∙ ap₂ (λ (s : FullSize) (l : List ℕ). imported s.w s.h l) (size_is l) (body_is l) in
    ap (λ (s : FullSize). import_answer (Ok s) new) (size_is l)
    ∙ read_in_lem (file l) _ (pam l) (enough l) new (laid_front _ _ _ _ all (count l ∙ sym (length_recoloured _ (w l) (h l) _)))
