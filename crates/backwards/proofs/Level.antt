-- One decimation worked out backwards: the outputs doubled back to the level below, carried through it, and halved back.
use Rattle.std.proofs.Common.{◌≡◌, ℕ, suc, ◌*◌, ◌-◌, ◌<◌, ◌≤◌, ◌^◌, List, ◌++◌, length, take, drop, ap, sym, ◌∙◌, subst, arith}
use lib.Seq.{length-take-le, length_front, take_at}
use Rattle.picture.specs.Sizes.{half}
use Rattle.picture.specs.declared.EdgeMode.{EdgeMode}
use Rattle.exact_blur.specs.Exact.{exact_halve, exact_double}
use Rattle.share_laws.specs.Share.{exact_line, axis_scale}
use Rattle.back_passes.specs.Worth.{total, Carried, Blank}
use Rattle.back_passes.specs.Steps.{PassReady}
use Rattle.back_passes.specs.declared.back.PassKind.TheVariants.{Halve, Double}
use Rattle.back_passes.proofs.Worth.{total_blank}
use Rattle.backwards.specs.Needs.{LineReady}
use Rattle.backwards.proofs.Lines.{blank_take, blank_again, line_step, down_total, through_total, down_room, through_room, up_room}

-- what a call leaves of the outputs and the row that it was lent
pub record Moved (outputs row : List ℕ) (f : ((ℕ → ℕ) → ℕ → ℕ)) (outputs' row' : List ℕ) : Type 0 where
  pub outputs_long : length outputs' ≡ length outputs
  pub row_long : length row' ≡ length row
  pub carried : Carried outputs row' f
  pub blank : Blank outputs'

module _ {outputs row : List ℕ} {s n : ℕ} {ms : List ℕ} (r : LineReady outputs row s n ms) (some : n ≡ 0 → ⊥) (k : ℕ) (k_is : k ≡ half s) where
  inside : k ≤ s
  inside = omega (arith, k_is, r.low)

  row_part : length (take k row) ≡ k
  row_part = length-take-le k row (omega (arith, inside, r.row_is))

  one_more : n ≡ suc (n - 1)
  one_more = omega arith

  room : axis_scale (suc (n - 1)) * total outputs < 2 ^ 32
  room = subst (λ (m : ℕ). axis_scale m * total outputs < 2 ^ 32) one_more r.room

  pub down_ready : PassReady Double outputs (take k row) ms
  down_ready =
      record {
        sized = record { low = omega (arith, row_part, k_is, r.low); high = omega (arith, row_part, inside, r.high) };
        kernel = r.kernel;
        far = omega (arith, r.high, r.outputs_is);
        room = omega (arith, total_blank (take k row) (blank_take k row r.blank), down_room (n - 1) (total outputs) room);
      }

  -- after the doubling
  module _ (mode : EdgeMode) (out₁ row₁ : List ℕ) (d : Moved outputs (take k row) (exact_double mode (length (take k row))) out₁ row₁) where
    out₁_long : length out₁ ≡ s
    out₁_long = d.outputs_long ∙ r.outputs_is

    row₁_long : length row₁ ≡ k
    row₁_long = d.row_long ∙ row_part

    out₁_part : length (take k out₁) ≡ k
    out₁_part = length-take-le k out₁ (omega (arith, out₁_long, inside))

    down : Carried outputs row₁ (exact_double mode (half s))
    down = subst (λ (m : ℕ). Carried outputs row₁ (exact_double mode m)) (row_part ∙ k_is) d.carried

    -- the row whole again, and its part
    whole : length (row₁ ++ drop k row) ≡ s
    whole = length_front row row₁ k d.row_long ∙ r.row_is

    part : take k (row₁ ++ drop k row) ≡ row₁
    part = take_at row₁ (drop k row) k row₁_long

    pub through_ready : (u : ℕ) → u ≡ half s → LineReady (take k (row₁ ++ drop k row)) (take k out₁) u (n - 1) ms
    through_ready u u_is =
        record {
          low = omega (arith, u_is, r.low);
          high = omega (arith, u_is, k_is, inside, r.high);
          outputs_is = ap length part ∙ row₁_long ∙ k_is ∙ sym u_is;
          row_is = out₁_part ∙ k_is ∙ sym u_is;
          blank = blank_take k out₁ d.blank;
          kernel = r.kernel;
          room = rw part (through_room (n - 1) (total outputs) room (total row₁) (down_total mode ms outputs row₁ (half s) down));
        }

    -- after the level below
    module _ (u : ℕ) (u_is : u ≡ half s) (out₂ row₂ : List ℕ) (t : Moved (take k (row₁ ++ drop k row)) (take k out₁) (exact_line mode ms (n - 1) u) out₂ row₂) where
      row₂_long : length row₂ ≡ k
      row₂_long = t.row_long ∙ out₁_part

      through : Carried row₁ row₂ (exact_line mode ms (n - 1) (half s))
      through =
          subst (λ (m : ℕ). Carried row₁ row₂ (exact_line mode ms (n - 1) m)) u_is
          (subst (λ (p : List ℕ). Carried p row₂ (exact_line mode ms (n - 1) u)) part t.carried)

      row_whole : length (out₂ ++ drop k (row₁ ++ drop k row)) ≡ s
      row_whole = length_front (row₁ ++ drop k row) out₂ k t.outputs_long ∙ whole

      pub row_blank : Blank (out₂ ++ drop k (row₁ ++ drop k row))
      row_blank = blank_again k row row₁ out₂ r.blank row₁_long t.blank

      part₂ : take k (row₂ ++ drop k out₁) ≡ row₂
      part₂ = take_at row₂ (drop k out₁) k row₂_long

      pub up_ready : PassReady Halve (take k (row₂ ++ drop k out₁)) (out₂ ++ drop k (row₁ ++ drop k row)) ms
      up_ready =
          let up =
          up_room (n - 1) (total outputs) room (total row₁) (down_total mode ms outputs row₁ (half s) down) (total row₂)
          (through_total mode ms r.kernel row₁ row₂ (n - 1) (half s) through) in
          record {
            sized = record { low = omega (arith, row_whole, r.low); high = omega (arith, row_whole, r.high) };
            kernel = r.kernel;
            far = rw part₂ (omega (arith, row₂_long, inside, r.high));
            room = rw part₂ (omega (arith, total_blank (out₂ ++ drop k (row₁ ++ drop k row)) row_blank, up));
          }

      -- after the halving
      pub line_carried : (row₃ : List ℕ) → Carried (take k (row₂ ++ drop k out₁)) row₃ (exact_halve mode (length (out₂ ++ drop k (row₁ ++ drop k row)))) → Carried outputs row₃ (exact_line mode ms n s)
      line_carried row₃ h =
          let up =
          subst (λ (m : ℕ). Carried row₂ row₃ (exact_halve mode m)) row_whole
          (subst (λ (p : List ℕ). Carried p row₃ (exact_halve mode (length (out₂ ++ drop k (row₁ ++ drop k row))))) part₂ h) in
          subst (λ (m : ℕ). Carried outputs row₃ (exact_line mode ms m s)) (sym one_more)
          (line_step mode ms outputs row₁ row₂ row₃ (n - 1) s down through up)

      pub outputs_blank : (out₃ : List ℕ) → Blank out₃ → Blank (out₃ ++ drop k (row₂ ++ drop k out₁))
      outputs_blank out₃ z = blank_again k out₁ row₂ out₃ d.blank row₂_long z
