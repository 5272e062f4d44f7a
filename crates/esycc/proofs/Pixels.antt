-- Whole pixels: the sums of each depth's numbers are the definitions' codes.
-- Assumes nothing.
use mathlib.Core.Path.{◌≡◌, refl, ap, ◌∙◌}
use Prim.Native.Nat.{ℕ, ◌+◌, ◌-◌, ◌*◌, ◌/◌, ◌≤◌, min, max}
use native.Mathlib.Omega.{arith}
use native.Mathlib.Nat.{mul_assoc, mul-le-mul}
use Rattle.samples.specs.declared.Pixel.{Pixel}
use Rattle.samples.specs.Samples.{pixel}
use Rattle.esrgb.specs.declared.Depth.{Depth}
use Rattle.esrgb.specs.declared.Depth.TheVariants.{Ten, Twelve, Sixteen}
use Rattle.esrgb.specs.Depths.{bits, greatest, middle, offset, step, scale}
use Rattle.esrgb.proofs.Scale.{Scale, scale as numbers}
use Rattle.numbers.proofs.Shares.{Share}
use Rattle.esycc.specs.Esycc.{code, weighted, luma, chroma, to_esycc, Ycc, from_ycc, of_esycc}
use Rattle.esycc.specs.Sycc.{chroma_byte, to_sycc, of_sycc}
use Rattle.esycc.specs.declared.Sums.{Sums}
use Rattle.esycc.specs.declared.Factors.{Factors}
use Rattle.esycc.specs.declared.Rows.{Rows}
use Rattle.esycc.specs.HowCounted.{Ratio, codes_at, unit, lift, most_sum, most_difference, most_luma_factor, most_chroma_factor, top, bottom, Terms, factors_by, Few, luma_sum, chroma_sum, sums_by, back_lift, back_top, back_half, BackTerms, rows_by, back_sums_by}
use Rattle.esycc.proofs.Coded.{share_times}
use Rattle.esycc.proofs.There.{reaches, luma_reach, chroma_reach, luma_coded, chroma_coded}
use Rattle.esycc.proofs.Back.{most_back_bottom, Within, adding_coded, taking_coded}
use Rattle.esycc.proofs.Sycc.{clipped-first}

-- ---- the numbers of the depths
pub esycc-ratio : (d : Depth) → Ratio (greatest (bits d)) (scale (bits d)) (top d) (bottom d)
esycc-ratio Ten = record { times = 3; some = omega arith; first-is = refl; second_is = refl }
esycc-ratio Twelve = record { times = 15; some = omega arith; first-is = refl; second_is = refl }
esycc-ratio Sixteen = record { times = 255; some = omega arith; first-is = refl; second_is = refl }

pub esycc_terms : (d : Depth) → Terms (top d) (bottom d)
esycc_terms Ten = omega arith
esycc_terms Twelve = omega arith
esycc_terms Sixteen = omega arith

pub sycc-ratio : (n : ℕ) → Ratio 255 (scale n) 1 (step n)
sycc-ratio n = record { times = 255; some = omega arith; first-is = refl; second_is = refl }

pub sycc_terms : {n : ℕ} → Scale n → Terms 1 (step n)
sycc_terms s = record { some = omega (arith, s.some); few = omega (arith, s.fits); ratio = omega (arith, s.some) }

esycc_back_ratio : (d : Depth) → Ratio (scale (bits d)) (10000 * greatest (bits d)) (back_top d) (2 * back_half d)
esycc_back_ratio Ten = record { times = 30; some = omega arith; first-is = refl; second_is = refl }
esycc_back_ratio Twelve = record { times = 120; some = omega arith; first-is = refl; second_is = refl }
esycc_back_ratio Sixteen = record { times = 2040; some = omega arith; first-is = refl; second_is = refl }

pub esycc_back_terms : (d : Depth) → BackTerms (back_top d) (2 * back_half d) (middle (bits d))
esycc_back_terms Ten = omega arith
esycc_back_terms Twelve = omega arith
esycc_back_terms Sixteen = omega arith

sycc_back_ratio : (n : ℕ) → Ratio (scale n) (10000 * 1020) (step n) (2 * 20000)
sycc_back_ratio n = record { times = 255; some = omega arith; first-is = refl; second_is = refl }

pub sycc_back_terms : {n : ℕ} → Scale n → BackTerms (step n) (2 * 20000) 255
sycc_back_terms s = record { some = omega (arith, s.some); few = omega (arith, s.fits); ratio = omega (arith, s.fits); middle = omega arith }

-- ---- from e-sRGB
pub record Samples (p : Pixel) : Type 0 where
  pub first : p.first ≤ 65535
  pub second : p.second ≤ 65535
  pub third : p.third ≤ 65535

module _ {n most p q : ℕ} (s : Scale n) (t : Terms p q) (r : Ratio most (scale n) p q) (px : Pixel) (h : Samples px) where
  luma-is : min most (luma_sum (p * unit / (1000 * q)) (192000 * step n) (weighted px) - lift) ≡ luma most n px
  unfolding luma
  luma-is =
      let low : 192000 * step n ≡ 1000 * offset n = omega (arith, s.zero_at) in
      luma_coded t r (share_times 500 p q unit (omega (arith, t.some))) (192000 * step n) (weighted px) (omega (arith, s.fits)) (omega (arith, h))
      ∙ ap (λ (x : ℕ). code most 0 most (weighted px) x (1000 * scale n)) low

  module _ (half origin : ℕ) (some : 1 ≤ half) (few : half ≤ 1772) (far : p * most_difference ≤ 2 * (half * q) * chroma_reach) where
    half_share : Share (2 * (half * q)) p unit (p * unit / (2 * half * q))
    half_share = let den : 1 * 1 ≤ half * q = mul-le-mul some t.some in share_times half p q unit (omega arith)

    blue-is :
        min most (chroma_sum (p * unit / (2 * half * q)) origin px.third (weighted px) - lift)
        ≡ code most origin most (1000 * px.third) (weighted px) (2 * half * scale n)
    blue-is =
        chroma_coded half t r half_share origin px.third (weighted px) (886 * px.third) (299 * px.first + 587 * px.second) (114 * px.third)
        some few far (omega arith) (omega arith) (omega (arith, h)) (omega (arith, h))

    red-is :
        min most (chroma_sum (p * unit / (2 * half * q)) origin px.first (weighted px) - lift)
        ≡ code most origin most (1000 * px.first) (weighted px) (2 * half * scale n)
    red-is =
        chroma_coded half t r half_share origin px.first (weighted px) (701 * px.first) (587 * px.second + 114 * px.third) (299 * px.first)
        some few far (omega arith) (omega arith) (omega (arith, h)) (omega (arith, h))

-- The factors are few enough for the arithmetic.
few_factor : {p q : ℕ} (half : ℕ) → Terms p q → 1 ≤ half → p * most_difference ≤ 2 * (half * q) * chroma_reach → p * unit / (2 * half * q) ≤ most_chroma_factor
few_factor {p} {q} half t some far =
    let den : 1 * 1 ≤ half * q = mul-le-mul some t.some in
    omega (arith, reaches most_difference chroma_reach (share_times half p q unit (omega arith)) (omega arith) far)

few-luma : {p q : ℕ} → Terms p q → p * unit / (1000 * q) ≤ most_luma_factor
few-luma {p} {q} t =
    omega (arith, reaches most_sum luma_reach (share_times 500 p q unit (omega (arith, t.some))) (omega (arith, t.some)) (omega (arith, t.ratio)))

pub esycc-few : (d : Depth) → Few (factors_by (top d) (bottom d) 3544 2804)
esycc-few d =
    let t = esycc_terms d in
    record {
      luma = few-luma t;
      cb = few_factor 1772 t (omega arith) (omega (arith, t));
      cr = few_factor 1402 t (omega arith) (omega (arith, t));
    }

pub sycc-few : {n : ℕ} → Scale n → Few (factors_by 1 (step n) 1772 1402)
sycc-few s =
    let t = sycc_terms s in
    record {
      luma = few-luma t;
      cb = few_factor 886 t (omega arith) (omega (arith, s.some));
      cr = few_factor 701 t (omega arith) (omega (arith, s.some));
    }

module _ (d : Depth) (px : Pixel) (h : Samples px) where
  abbrev n : ℕ
  n = bits d

  pub is-esycc : codes_at (greatest n) lift (sums_by (factors_by (top d) (bottom d) 3544 2804) (middle n) (192000 * step n) px) ≡ to_esycc n px
  unfolding chroma
  is-esycc =
      let t = esycc_terms d in
      let r = esycc-ratio d in
      let y = luma-is (numbers d) t r px h in
      let b = blue-is (numbers d) t r px h 1772 (middle n) (omega arith) (omega arith) (omega (arith, t)) in
      let c = red-is (numbers d) t r px h 1402 (middle n) (omega arith) (omega arith) (omega (arith, t)) in
      λ i. pixel (y i) (b i) (c i)

  -- Of bytes, what is raised to 1 is the code that is clipped first.
  byte-is :
      (half up down sum : ℕ) → 1 ≤ half → min 255 (sum - lift) ≡ code 255 128 255 up down (2 * half * scale n)
      → min 255 (max (lift + 1) sum - lift) ≡ chroma_byte up down (half * scale n)
  byte-is half up down sum some e =
      let s = numbers d in
      let scales : 1 ≤ scale n = omega (arith, s.some) in
      let den : 1 * 1 ≤ half * scale n = mul-le-mul some scales in
      let raised : min 255 (max (lift + 1) sum - lift) ≡ max 1 (min 255 (sum - lift)) = omega arith in
      raised ∙ ap (max 1) (e ∙ ap (λ (x : ℕ). code 255 128 255 up down x) (mul_assoc 2 half (scale n))) ∙ clipped-first (half * scale n) up down (omega arith)

  pub is-sycc :
      (let s = sums_by (factors_by 1 (step n) 1772 1402) 128 (192000 * step n) px in
      codes_at 255 lift (record { first = s.first; second = max (lift + 1) s.second; third = max (lift + 1) s.third })) ≡ to_sycc n px
  is-sycc =
      let s = numbers d in
      let t = sycc_terms s in
      let r = sycc-ratio n in
      let y = luma-is s t r px h in
      let b = byte-is 886 (1000 * px.third) (weighted px) _ (omega arith) (blue-is s t r px h 886 128 (omega arith) (omega arith) (omega (arith, s.some))) in
      let c = byte-is 701 (1000 * px.first) (weighted px) _ (omega arith) (red-is s t r px h 701 128 (omega arith) (omega arith) (omega (arith, s.some))) in
      λ i. pixel (y i) (b i) (c i)

-- The sums that the code has worked out, by equations.
pub sums_are :
    (px : Pixel) (origin low origin' low' : ℕ) {f f' : Factors} {s : Sums} → s ≡ sums_by f origin low px → f ≡ f' → origin ≡ origin' → low ≡ low'
    → s ≡ sums_by f' origin' low' px
sums_are px origin low origin' low' e f-is o l = e ∙ (λ i. sums_by (f-is i) (o i) (l i) px)

-- ---- to e-sRGB
pub back_sums_are :
    (v : Ycc) (y cb cr : ℕ) {r r' : Rows} {s : Sums}
    → s.first ≡ (back_sums_by r y cb cr).first → s.second ≡ (back_sums_by r y cb cr).second → s.third ≡ (back_sums_by r y cb cr).third
    → r ≡ r' → y ≡ v.y → cb ≡ v.cb → cr ≡ v.cr → s ≡ back_sums_by r' v.y v.cb v.cr
back_sums_are v y cb cr {r} {r'} {s} first second third r-is hy hb hr =
    let e : s ≡ back_sums_by r y cb cr = λ i. record { first = first i; second = second i; third = third i } in
    e ∙ (λ i. back_sums_by (r-is i) (hy i) (hb i) (hr i))

pub is-channels :
    {n p half : ℕ} {v : Ycc} → Within n p half v
    → codes_at (greatest n) (back_lift - offset n) (back_sums_by (rows_by p (2 * half) v.grey) v.y v.cb v.cr) ≡ from_ycc n v
is-channels w =
    let r = adding_coded w 0 28040 (omega arith) in
    let g = taking_coded w 6882 14282 (omega arith) in
    let b = adding_coded w 35440 3 (omega arith) in
    λ i. pixel (r i) (g i) (b i)

pub esycc-within :
    (d : Depth) (px : Pixel) → Samples px
    → Within (bits d) (back_top d) (back_half d) (of_esycc (bits d) px)
esycc-within d px h = record {
  ratio = esycc_back_ratio d;
  terms = let t = esycc_back_terms d in record { some = t.some; few = t.few; ratio = t.ratio; middle = omega (arith, t.middle) };
  few = halves d;
  offsets = omega (arith, (numbers d).zero_at, (numbers d).fits);
  y-most = omega (arith, h);
  cb-most = omega (arith, h);
  cr-most = omega (arith, h);
}
  where
    halves : (d : Depth) → 2 * back_half d ≤ most_back_bottom
    halves Ten = omega arith
    halves Twelve = omega arith
    halves Sixteen = omega arith

pub sycc-within :
    (d : Depth) (px : Pixel) → Samples px
    → Within (bits d) (step (bits d)) 20000 (of_sycc px)
sycc-within d px h = record {
  ratio = sycc_back_ratio (bits d);
  terms = sycc_back_terms (numbers d);
  few = omega arith;
  offsets = omega (arith, (numbers d).zero_at, (numbers d).fits);
  y-most = omega (arith, h);
  cb-most = omega (arith, h);
  cr-most = omega (arith, h);
}
