-- Premultiplied planes stay premultiplied, by conversion: what an operation keeps of a picture it keeps of planes.
use mathlib.Core.Path.{◌≡◌}
use mathlib.Core.List.{List}
use Prim.Native.Nat.{ℕ}
use native.Mathlib.Omega.{arith}
use lib.ListN.{length}
use Rattle.picture.specs.Planes.{bytes_of, painted}
use Rattle.picture.specs.Refusal.{first_of}
use Rattle.picture.specs.Answer.{LentCopy}
use Rattle.picture.specs.declared.FullSize.{FullSize}
use Rattle.picture.proofs.Planes.{chan_painted}
use Rattle.kept.proofs.Left.{either_way}
use Rattle.exact_blur.specs.Demand.{Bytes}
use Rattle.gaussian_blur.proofs.Outcomes.{accepted}
use Rattle.binary32.specs.Round.{whole_offset}
use Rattle.premultiplied.specs.Stays.{KeepsPremultiplied}
use Rattle.premultiplied.proofs.Checked.{under_alpha}
use Rattle.premultiplied.proofs.Painted.{painted_bytes}
use Rattle.premultiplied.proofs.Blurs.{blur_keeps}
use Rattle.premultiplied.proofs.Shifts.{shift_keeps}
use Rattle.premultiplied.proofs.Shadows.{shadow_keeps}
use Rattle.planes.specs.Planar.{plane_of, planar, interleaved, on_planes}
use Rattle.planes.proofs.Once.{length_interleaved, back}
use Rattle.plane_laws.specs.Calls.{Operation, blur, shift, shadow, Given, Work}
use Rattle.plane_laws.specs.Stays.{PremultipliedPlanes, AsPicture, LeavesPlanes, PlanesStay}
use Rattle.plane_laws.proofs.Calls.{checks, made, made_long, Works, each_on_planes}

pub as_picture_lem : AsPicture
unfolding interleaved
as_picture_lem w h p = (
  λ low.
      (under_alpha (painted w h (plane_of p w h)) w h).1
      (λ c x y lc lx ly. rw (chan_painted w h (plane_of p w h) c x y (omega arith) lx ly, chan_painted w h (plane_of p w h) 3 x y (omega arith) lx ly) (low c x y lc lx ly)),
  λ pre c x y lc lx ly.
      rw (chan_painted w h (plane_of p w h) c x y (omega arith) lx ly, chan_painted w h (plane_of p w h) 3 x y (omega arith) lx ly) at ((under_alpha (painted w h (plane_of p w h)) w h).0 pre c x y lc lx ly),
)

picture_bytes : (w h : ℕ) (p : List ℕ) → Bytes p → Bytes (interleaved w h p)
unfolding interleaved plane_of
picture_bytes w h p low = painted_bytes w h (plane_of p w h) (λ c x y. low _)

-- whatever the operation
planes_keep : (w h : ℕ) (op : List ℕ → List ℕ) → KeepsPremultiplied w h op → ((q : List ℕ) → length q ≡ bytes_of w h → length (op q) ≡ bytes_of w h) →
    (p : List ℕ) → LeavesPlanes w h p (on_planes w h op p)
unfolding on_planes
planes_keep w h op keeps long p fit pre =
    (as_picture_lem w h (planar w h (op (interleaved w h p)))).1
    (rw (back w h (op (interleaved w h p)) (long _ (length_interleaved w h p)))
    (keeps.premultiplied _ (picture_bytes w h p (λ i. omega (arith, (fit i).fits))) ((as_picture_lem w h p).0 pre)))

-- whatever the operation, where none of its checks refuses
made_keeps : (o : Operation) (g : Given o) (z : FullSize) (l : LentCopy) → 0 ≡ first_of (checks o g z (length l.picture) (length l.scratch) (length l.copy)) → KeepsPremultiplied z.w z.h (made o g z)
made_keeps blur g z l none = blur_keeps _ _ (accepted l.picture z.w z.h l.scratch g.0 g.1 g.2 g.3 none).1.kernel _ z.w z.h _
made_keeps shift g z l none = shift_keeps (whole_offset g.0) (whole_offset g.1) z.w z.h
made_keeps shadow g z l none = shadow_keeps _ g.0 g.1 g.3 z.w z.h g.4

planes_leave : (o : Operation) (k : Work o) → Works o on_planes k → LeavesPlanes k.size.w k.size.h k.before.picture k.after.picture
planes_leave o k e fit pre =
    let z = k.size in
    either_way (λ (l : LentCopy). PremultipliedPlanes z.w z.h l.picture) _ _ _ k.number k.after e pre
    (λ none. planes_keep z.w z.h _ (made_keeps o k.given z k.before none) (made_long o k.given z) k.before.picture fit pre)

pub planes_stay : PlanesStay
planes_stay o = each_on_planes o _ (planes_leave o)
