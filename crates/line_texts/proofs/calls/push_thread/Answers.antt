use Rattle.std.proofs.Common.{◌≡◌, ◌++◌, ◌∙◌, List, ℕ, sym, ap, append_assoc, codes, decimal, string_bytes}
use Rattle.spk_nums.specs.{Texts.site_text, Texts.call_text, declared.calls.Call.Call, declared.calls.Make.Make}
use Rattle.line_texts.proofs.calls.push_thread.Goals as goal

whole : (r f t b n : ℕ) → ((codes "make thread " ++ site_text r f t b) ++ codes " ") ++ decimal n ≡ call_text (Call.Make (Make.Thread n) r f t b)
whole r f t b n = simp append_assoc

pub returns : goal.returns
returns c =
    let site = c.args.site in
    let text = string_bytes c.args.text.now in
    let word : List ℕ = codes "make thread " in
    let place : List ℕ = site_text site.range site.frame site.table site.slot in
    c.in_ok-push_spaced.ensures
    ∙ ap (λ x. x ++ (codes " " ++ decimal c.of.result)) c.in_ok-push_site.ensures
    ∙ append_assoc text (word ++ place) (codes " " ++ decimal c.of.result)
    ∙ ap (λ x. text ++ x) (sym (append_assoc (word ++ place) (codes " ") (decimal c.of.result)))
    ∙ ap (λ n. text ++ (((word ++ place) ++ codes " ") ++ decimal n)) c.of.ensures
    ∙ ap (λ x. text ++ x) (whole site.range site.frame site.table site.slot c.args.comp)
