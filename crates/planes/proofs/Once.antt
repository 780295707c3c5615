-- There and back; and one statement for every operation and channel.
use mathlib.Core.Path.{◌≡◌, ◌∙◌, sym, ap}
use mathlib.Core.List.{List}
use Prim.Native.Nat.{ℕ, ◌<◌}
use lib.ListN.{length}
use Rattle.picture.specs.Planes.{Plane, bytes_of, chan, painted}
use Rattle.picture.proofs.Planes.{length_painted, chan_painted, painted_ext}
use Rattle.planes.specs.Planar.{plane_of, painted_planes, planar, interleaved, on_planes}
use Rattle.planes.proofs.Planar.{length_planes, plane_painted, planes_ext}

module _ (w h : ℕ) where
  -- each form has 4wh bytes
  pub length_planar : (p : List ℕ) → length (planar w h p) ≡ bytes_of w h
  unfolding planar
  length_planar p = length_planes w h _

  pub length_interleaved : (p : List ℕ) → length (interleaved w h p) ≡ bytes_of w h
  unfolding interleaved
  length_interleaved p = length_painted w h _

  -- each conversion undoes the other
  pub back : (p : List ℕ) → length p ≡ bytes_of w h → interleaved w h (planar w h p) ≡ p
  unfolding planar interleaved
  back p e = sym (painted_ext w h _ p e (λ c x y lc lx ly. sym (plane_painted w h (chan p w) c x y lc lx ly)))

  pub there : (p : List ℕ) → length p ≡ bytes_of w h → planar w h (interleaved w h p) ≡ p
  unfolding planar interleaved
  there p e = sym (planes_ext w h _ p e (λ c x y lc lx ly. sym (chan_painted w h (plane_of p w h) c x y lc lx ly)))

  -- converting, working and converting back gives the same bytes: whatever the operation
  pub same : (op : List ℕ → List ℕ) (p : List ℕ) → length p ≡ bytes_of w h → length (op p) ≡ bytes_of w h → interleaved w h (on_planes w h op (planar w h p)) ≡ op p
  unfolding on_planes
  same op p e f = rw (back p e) (back (op p) f)

  pub length_on_planes : (op : List ℕ → List ℕ) (planes : List ℕ) → length (on_planes w h op planes) ≡ bytes_of w h
  unfolding on_planes
  length_on_planes op planes = length_planar (op (interleaved w h planes))

  -- planes that agree inside
  abbrev pub AgreeInside : (ℕ → Plane) → (ℕ → Plane) → Type 0
  AgreeInside F G = (c x y : ℕ) → c < 4 → x < w → y < h → F c x y ≡ G c x y

  -- an operation given channel by channel, which looks only inside, does the same to planes: whatever the channel
  pub on_planes_lem : (Op : (ℕ → Plane) → ℕ → Plane) → ((F G : ℕ → Plane) → AgreeInside F G → AgreeInside (Op F) (Op G)) →
      (op : List ℕ → List ℕ) → ((p : List ℕ) → op p ≡ painted w h (Op (chan p w))) →
      (planes : List ℕ) → on_planes w h op planes ≡ painted_planes w h (Op (plane_of planes w h))
  unfolding on_planes planar interleaved
  on_planes_lem Op local op is planes =
      planes_ext w h _ _ (length_planes w h _)
      (λ c x y lc lx ly.
      plane_painted w h _ c x y lc lx ly
      ∙ ap (λ (p : List ℕ). chan p w c x y) (is (painted w h (plane_of planes w h)))
      ∙ chan_painted w h _ c x y lc lx ly
      ∙ local _ _ (λ d u v ld lu lv. chan_painted w h (plane_of planes w h) d u v ld lu lv) c x y lc lx ly)
