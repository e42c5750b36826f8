-- What a pass spends is as much for each index.
use Rattle.std.proofs.Common.{◌≡◌, ℕ, suc, ◌+◌, ◌-◌, ◌*◌, ◌<◌, ◌≤◌, ap, ◌∙◌, arith}
use Rattle.std.proofs.Math.Nat.{suc-mul, mul-le-mul_right}

-- one frame more
pub one_frame_more : (before index frame now then : ℕ) → now ≤ before + index * frame → then ≤ now + frame → then ≤ before + (index + 1) * frame
one_frame_more before index frame now then spent more =
    let e : index + 1 ≡ suc index = omega arith in
    let each : (index + 1) * frame ≡ index * frame + frame = ap (λ (n : ℕ). n * frame) e ∙ suc-mul index frame in
    omega (arith, each, spent, more)

-- and no more where indices are passed over after it
pub frame_and_skip : (before index next frame now then : ℕ) → index + 1 ≤ next → now ≤ before + index * frame → then ≤ now + frame → then ≤ before + next * frame
frame_and_skip before index next frame now then rises spent more =
    let one = one_frame_more before index frame now then spent more in
    let all : (index + 1) * frame ≤ next * frame = mul-le-mul_right frame rises in
    omega (arith, one, all)

-- one frame of those that are left
pub one_frame_less : (most index frame now then : ℕ) → 0 < index → now + index * frame ≤ most → then ≤ now + frame → then + (index - 1) * frame ≤ most
one_frame_less most index frame now then some spent more =
    let e : index ≡ suc (index - 1) = omega (arith, some) in
    let each : index * frame ≡ (index - 1) * frame + frame = ap (λ (n : ℕ). n * frame) e ∙ suc-mul (index - 1) frame in
    omega (arith, each, spent, more)

-- and no more is left of fewer
pub fewer_left : (most more fewer frame now : ℕ) → fewer ≤ more → now + more * frame ≤ most → now + fewer * frame ≤ most
fewer_left most more fewer frame now few spent = (let less : fewer * frame ≤ more * frame = mul-le-mul_right frame few in omega (arith, less, spent))
