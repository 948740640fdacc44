-- A request read word by word. Assumes nothing.
use Rattle.std.proofs.Common.{◌≡◌, ℕ, ◌+◌, ◌-◌, ◌<◌, ◌≤◌, List, [], ◌∷◌, ◌++◌, map, length, get_or, take, drop, Ok, Err, string_bytes, Result, String, sym, refl, ap, ◌∙◌, subst, ⊎_elim, arith}
use Rattle.std.specs.declared.alloc.Global.{Global}
use Rattle.std.proofs.lemmas.List.{get_or-drop, get_or-map, length-drop, map_more}
use Rattle.std.proofs.lemmas.List.FromFn.{get_or-enumerate_from, length-enumerate_from}
use Rattle.std.specs.List.{enumerate_from}
use Rattle.std.proofs.lemmas.Bool.{cases_order, ne_eqb}
use Rattle.apportion.specs.Numerals.{ReadsNumber, value}
use Rattle.apportion.specs.declared.words.WordFault.{WordFault}
use Rattle.apportion.specs.Limits.{largest_load}
use Rattle.apportion.specs.Request.{WritesNumberAt, IsNumberAt, IsRequestOf, limit_at, texts}
use Rattle.apportion.specs.declared.fault.Fault.{Fault}
use Rattle.apportion.specs.declared.fault.Fault.TheVariants.{TooFewWords, TooManyWords, Word, Refused, Memory}

-- the words after the first, each with its index: this turn's word stands at the index that it comes with
pub record TurnAt (words : List (String Global)) (i index : ℕ) (word : String Global) : Type 0 where
  pub index_is : index ≡ i + 1
  pub within : i + 1 < length words
  pub word_is : word ≡ get_or words (i + 1) word

pub turn_at : (words : List (String Global)) (i index : ℕ) (word : String Global) → i < length (drop 1 (enumerate_from 0 words)) → (index, word) ≡ get_or (drop 1 (enumerate_from 0 words)) i (index, word) → TurnAt words i index word
turn_at words i index word h e =
    let within : i + 1 < length words = omega (arith, h, length-drop 1 (enumerate_from 0 words), length-enumerate_from 0 words) in
    let later : 1 + i < length words = omega arith in
    let same = e ∙ get_or-drop 1 (enumerate_from 0 words) i (index, word) ∙ get_or-enumerate_from 0 words (1 + i) (index, word) later in
    let count : 1 + i ≡ i + 1 = omega arith in
    record {
      index_is = omega (arith, ap (λ (p : ℕ × String Global). p.0) same);
      within = within;
      word_is = ap (λ (p : ℕ × String Global). p.1) same ∙ ap (λ k. get_or words k word) count;
    }

-- the text of the word at an index, from the word that is read there
pub text_at : (words : List (String Global)) {index : ℕ} {word : String Global} {text : List ℕ} → index < length words → word ≡ get_or words index word → text ≡ string_bytes word → text ≡ get_or (texts words) index []
text_at words {index} {word} within is text_is =
    text_is ∙ ap string_bytes is ∙ sym (get_or-map string_bytes words index word [] within)

-- the same text under the same limit reads alike
pub reads_alike : {t u : List ℕ} {m n : ℕ} (r : Result ℕ WordFault) → t ≡ u → m ≡ n → ReadsNumber t m r → ReadsNumber u n r
reads_alike {t} {u} {m} {n} r text limit h = subst (λ (l : ℕ). ReadsNumber u l r) limit (subst (λ (x : List ℕ). ReadsNumber x m r) text h)

-- the words before an index write numbers, the first writes the energy and the others the loads
pub record ReadSoFar (ws : List (List ℕ)) (index energy : ℕ) (loads : List ℕ) : Type 0 where
  pub good : (earlier : ℕ) → earlier < index → WritesNumberAt ws earlier
  pub energy_is : energy ≡ value (get_or ws 0 [])
  pub loads_are : loads ≡ map value (take (index - 1) (drop 1 ws))

-- every word after the first writes a load
pub load_limit : (index : ℕ) → 1 ≤ index → limit_at index ≡ largest_load
load_limit index some = rw (ne_eqb index 0 (λ e. omega arith)) refl

pub good_at : (ws : List (List ℕ)) (index n : ℕ) → ReadsNumber (get_or ws index []) (limit_at index) (Ok n) → WritesNumberAt ws index
good_at ws index n reads = (reads.0, rw reads.1 at reads.2)

pub read_more : {ws : List (List ℕ)} {index energy : ℕ} {loads : List ℕ} (n : ℕ) → 1 ≤ index → index < length ws → ReadSoFar ws index energy loads → ReadsNumber (get_or ws index []) largest_load (Ok n) → ReadSoFar ws (index + 1) energy (loads ++ (n ∷ []))
read_more {ws} {index} {energy} {loads} n some within before reads =
    let reads_here : ReadsNumber (get_or ws index []) (limit_at index) (Ok n) = rw (load_limit index some) reads in
    let in_rest : index - 1 < length (drop 1 ws) = omega (arith, length-drop 1 ws) in
    let one_more = map_more value (drop 1 ws) (index - 1) [] in_rest in
    let at_index : get_or (drop 1 ws) (index - 1) [] ≡ get_or ws index [] = get_or-drop 1 ws (index - 1) [] ∙ ap (λ k. get_or ws k []) (omega arith) in
    let count : index - 1 + 1 ≡ index + 1 - 1 = omega arith in
    record {
      good = λ earlier h. ⊎_elim (λ same. subst (λ (k : ℕ). WritesNumberAt ws k) (sym same) (good_at ws index n reads_here))
          (⊎_elim (before.good earlier) (λ later. absurd (omega arith))) (cases_order earlier index);
      energy_is = before.energy_is;
      loads_are = cc (before.loads_are, reads.1, one_more, at_index, count);
    }

-- the fault of the word at an index, where all before it are good
pub refused_at : (ws : List (List ℕ)) (index limit : ℕ) (e : Fault) {at : ℕ} {text : List ℕ} → at ≡ index → text ≡ get_or ws index [] → limit_at index ≡ limit → index < length ws → ((earlier : ℕ) → earlier < index → WritesNumberAt ws earlier) → IsNumberAt text at limit (Err e) → IsRequestOf ws (Err e)
refused_at ws index limit TooFewWords at_is text_is limit_is within good h = absurd h
refused_at ws index limit TooManyWords at_is text_is limit_is within good h = absurd h
refused_at ws index limit (Word at why) at_is text_is limit_is within good h =
    let reads : ReadsNumber (get_or ws index []) (limit_at index) (Err why) = reads_alike (Err why) text_is (sym limit_is) h.1 in
    subst (λ (k : ℕ). (k < length ws) × ((earlier : ℕ) → earlier < k → WritesNumberAt ws earlier) × ReadsNumber (get_or ws k []) (limit_at k) (Err why))
    (sym at_is ∙ sym h.0) (within, good, reads)
refused_at ws index limit (Refused e) at_is text_is limit_is within good h = absurd h
refused_at ws index limit Memory at_is text_is limit_is within good h = absurd h
