-- How the energy of a span is shared over its half-hours.
-- E is the energy in Wh; each half-hour has a weight; W is the sum of the weights before a half-hour, S that of all.
use Rattle.std.specs.Prelude.{◌≡◌, ℕ, zero, suc, ◌+◌, ◌-◌, ◌*◌, ◌/◌, ◌<◌, ◌≤◌, min, Bool, cond, ◌&&◌, List, length, Some, None, Option, nat_le, nat_lt, slice_index}
use Rattle.std.specs.List.{list_all}

-- The sum of w over the places before t.
unfoldable pub before : (ℕ → ℕ) → ℕ → ℕ
before w zero = 0
before w (suc t) = before w t + w t

-- The running share R: the exact share E·W/S, a fraction, rounded down to whole Wh.
unfoldable pub running_share : ℕ → ℕ → ℕ → ℕ
running_share e s w = e * w / s

-- The figure of half-hour t of a span of n half-hours: what the running share gains in it.
unfoldable pub figure : ℕ → (ℕ → ℕ) → ℕ → ℕ → ℕ
figure e w n t = running_share e (before w n) (before w (t + 1)) - running_share e (before w n) (before w t)

-- Weights in a list: that of half-hour t stands at place t.
abbrev pub weighed : List ℕ → ℕ → ℕ
weighed ws t = slice_index ws t

abbrev pub total : List ℕ → ℕ
total ws = before (weighed ws) (length ws)

-- A weight is at most 1,000,000.
abbrev pub light : ℕ → Bool
light w = nat_le w 1000000

-- At most 1,680 half-hours, each with a weight of at most 1,000,000.
abbrev pub weighable : List ℕ → Bool
weighable ws = nat_le (length ws) 1680 && list_all light ws

-- The weights are not all 0 and add to at most what 1,680 half-hours can, and the energy is at most 999,999,999 Wh.
abbrev pub divisible : ℕ → ℕ → Bool
divisible e s = nat_le e 999999999 && nat_lt 0 s && nat_le s 1680000000

-- The weight that lies behind when t more half-hours have passed: never more than s, the whole.
abbrev pub passed : ℕ → ℕ → List ℕ → ℕ → ℕ
passed s behind ws t = min (behind + before (weighed ws) t) s

-- What the running share gains in half-hour t from there on.
abbrev pub gained : ℕ → ℕ → ℕ → List ℕ → ℕ → ℕ
gained e s behind ws t = running_share e s (passed s behind ws (t + 1)) - running_share e s (passed s behind ws t)

-- What writing figures leaves in the places it is lent: the gain of each half-hour that has a weight and a place; further
-- places as they were.
abbrev pub Written : ℕ → ℕ → ℕ → List ℕ → List ℕ → List ℕ → Type 0
Written e s behind ws old new =
    ((t : ℕ) → t < length ws → t < length old → slice_index new t ≡ gained e s behind ws t)
    × ((t : ℕ) → length ws ≤ t → slice_index new t ≡ slice_index old t)

-- What a sharing answers: the sum of the weights, or nothing where bounds are passed, all weights are 0 or a place is
-- lacking for a figure.
abbrev pub shared_over : ℕ → List ℕ → ℕ → Option ℕ
shared_over e ws places = cond (weighable ws && nat_le (length ws) places && divisible e (total ws)) (Some (total ws)) None

-- What a sharing leaves in the places it is lent: the figures, and further places as they were; all as it was where
-- it answers nothing.
abbrev pub Figures : ℕ → List ℕ → List ℕ → Option ℕ → List ℕ → Type 0
Figures e ws old None new = new ≡ old
Figures e ws old (Some s) new =
    ((t : ℕ) → t < length ws → slice_index new t ≡ figure e (weighed ws) (length ws) t)
    × ((t : ℕ) → length ws ≤ t → slice_index new t ≡ slice_index old t)
