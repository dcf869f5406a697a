use Rattle.std.proofs.Common.{ℕ, List}
use Rattle.hash160.specs.Ripemd160.{left}
use Rattle.hash160.proofs.Lines.{steps_next}
use Rattle.hash160.proofs.compress.left_line.Goals as goal

pub returns : goal.returns
returns c =
    let next = λ (v w : List ℕ) (n : ℕ). steps_next left c.args.block.now c.args.h v w n in
    let s1 = c.four_left_steps-v.ensures in
    let s2 = next _ _ 4 s1 c.four_left_steps-v-2.ensures in
    let s3 = next _ _ 8 s2 c.four_left_steps-v-3.ensures in
    let s4 = next _ _ 12 s3 c.four_left_steps-v-4.ensures in
    let s5 = next _ _ 16 s4 c.four_left_steps-v-5.ensures in
    let s6 = next _ _ 20 s5 c.four_left_steps-v-6.ensures in
    let s7 = next _ _ 24 s6 c.four_left_steps-v-7.ensures in
    let s8 = next _ _ 28 s7 c.four_left_steps-v-8.ensures in
    let s9 = next _ _ 32 s8 c.four_left_steps-v-9.ensures in
    let s10 = next _ _ 36 s9 c.four_left_steps-v-10.ensures in
    let s11 = next _ _ 40 s10 c.four_left_steps-v-11.ensures in
    let s12 = next _ _ 44 s11 c.four_left_steps-v-12.ensures in
    let s13 = next _ _ 48 s12 c.four_left_steps-v-13.ensures in
    let s14 = next _ _ 52 s13 c.four_left_steps-v-14.ensures in
    let s15 = next _ _ 56 s14 c.four_left_steps-v-15.ensures in
    let s16 = next _ _ 60 s15 c.four_left_steps-v-16.ensures in
    let s17 = next _ _ 64 s16 c.four_left_steps-v-17.ensures in
    let s18 = next _ _ 68 s17 c.four_left_steps-v-18.ensures in
    let s19 = next _ _ 72 s18 c.four_left_steps-v-19.ensures in
    next _ _ 76 s19 c.four_left_steps.ensures
