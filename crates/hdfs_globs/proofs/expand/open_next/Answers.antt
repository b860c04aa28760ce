-- A text that is cut, one that is whole, and one that a backslash ends.
use Rattle.std.proofs.Common.{◌∷◌, [], ◌++◌, ℕ, ◌+◌, List, take, drop, map, reverse, ap, ◌∙◌, string_bytes}
use Rattle.std.specs.Str.{chars}
use Rattle.std.proofs.lemmas.List.{take_rest, map_push}
use Rattle.hdfs_globs.specs.CutScans.{shown_cut}
use Rattle.hdfs_globs.specs.GroupScans.{shown_texts}
use Rattle.hdfs_globs.specs.Openings.{shown_work, shown_strings}
use Rattle.hdfs_globs.specs.declared.cut.Found.TheVariants.{Cut as CutAt, Whole, Escaping}
use Rattle.hdfs_globs.proofs.Opened.{stacked, kids-are, found-at, less-whole, less-cut, turn-cut, turn-whole, turn-escaping}
use Rattle.hdfs_globs.proofs.expand.open_next.Goals as goal

pub returns-in-Cut-clause-opened : goal.returns-in-Cut-clause-opened
returns-in-Cut-clause-opened c = λ whole left.
    let text : List ℕ = c.args.work.text.items in
    let from : ℕ = c.args.work.from in
    let cut = c.in-Cut.cut in
    let found = found-at _ text from (CutAt cut) (take_rest c.deref.result.now from ∙ ap (drop from) c.deref.ensures.value) (rw c.in-Cut.is at c.in_ok-cut.ensures) in
    let works : List (List ℕ × ℕ) = reverse (map shown_work c.args.stack.now.items) in
    let lies = stacked (map shown_work c.put_alternatives.new.stack.items) (map shown_work c.args.stack.now.items) _ c.in_ok-put_alternatives-in-Cut.ensures in
    let kids = kids-are text _ _ from cut.begins cut.after (shown_texts cut.alternatives) works _ (ap (take (from + cut.begins)) c.deref-in-Cut.ensures.value) (take_rest c.deref-in-Cut-2.result.now (from + cut.after) ∙ ap (drop (from + cut.after)) c.deref-in-Cut-2.ensures.value) lies in
    turn-cut text from works whole (shown_strings c.args.texts.now.items) left (shown_cut (drop from text) cut) _ found.0 kids

pub returns-in-Cut-clause-fewer : goal.returns-in-Cut-clause-fewer
returns-in-Cut-clause-fewer c = λ _.
    let text : List ℕ = c.args.work.text.items in
    let from : ℕ = c.args.work.from in
    let cut = c.in-Cut.cut in
    let found = found-at _ text from (CutAt cut) (take_rest c.deref.result.now from ∙ ap (drop from) c.deref.ensures.value) (rw c.in-Cut.is at c.in_ok-cut.ensures) in
    let works : List (List ℕ × ℕ) = reverse (map shown_work c.args.stack.now.items) in
    let lies = stacked (map shown_work c.put_alternatives.new.stack.items) (map shown_work c.args.stack.now.items) _ c.in_ok-put_alternatives-in-Cut.ensures in
    let kids = kids-are text _ _ from cut.begins cut.after (shown_texts cut.alternatives) works _ (ap (take (from + cut.begins)) c.deref-in-Cut.ensures.value) (take_rest c.deref-in-Cut-2.result.now (from + cut.after) ∙ ap (drop (from + cut.after)) c.deref-in-Cut-2.ensures.value) lies in
    less-cut text from works (shown_cut (drop from text) cut) _ found.0 kids

pub returns-in-Whole-clause-opened : goal.returns-in-Whole-clause-opened
returns-in-Whole-clause-opened c = λ whole left.
    let text : List ℕ = c.args.work.text.items in
    let from : ℕ = c.args.work.from in
    let found = found-at _ text from Whole (take_rest c.deref.result.now from ∙ ap (drop from) c.deref.ensures.value) (rw c.in-Whole.is at c.in_ok-cut.ensures) in
    let grown = ap shown_strings c.in_ok-push-in-Whole.ensures.items ∙ map_push (λ s. chars (string_bytes s)) c.args.texts.now.items c.in_ok-text_of-in-Whole.field-0
    ∙ ap (λ (t : List ℕ). shown_strings c.args.texts.now.items ++ t ∷ []) (c.in_ok-text_of-in-Whole.ensures ∙ c.deref-in-Whole.ensures.value) in
    turn-whole text from (reverse (map shown_work c.args.stack.now.items)) whole (shown_strings c.args.texts.now.items) left _ found.0 found.1 grown

pub returns-in-Whole-clause-fewer : goal.returns-in-Whole-clause-fewer
returns-in-Whole-clause-fewer c = λ _. less-whole c.args.work.text.items c.args.work.from _

pub returns-clause-opened : goal.returns-clause-opened
returns-clause-opened c = λ whole left.
    let text : List ℕ = c.args.work.text.items in
    let from : ℕ = c.args.work.from in
    let found = found-at _ text from Escaping (take_rest c.deref.result.now from ∙ ap (drop from) c.deref.ensures.value) (rw c.in-Escaping.is at c.in_ok-cut.ensures) in
    turn-escaping text from (reverse (map shown_work c.args.stack.now.items)) whole (shown_strings c.args.texts.now.items) left found.0 found.1
