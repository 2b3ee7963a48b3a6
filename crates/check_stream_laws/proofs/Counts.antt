-- Counts and reports of files that look alike.
use Rattle.std.proofs.Common.{◌≡◌, ℕ, suc, ◌+◌, Bool, true, false, List, [], ◌∷◌, length, Option, Some, None, refl, sym, ap, ◌∙◌}
use Rattle.std.specs.Prelude.{◌&&◌, fold, is_some, option_map, if◌then◌else◌}
use Rattle.std.specs.List.{cons_option, filter_map, list_all, sum_by}
use Rattle.std.specs.FinMap.{entries, get, len, len-entries, contains_key}
use Rattle.rv_names.specs.Keys.{Bytes}
use Rattle.project.specs.declared.item.Item.{Item}
use Rattle.project.specs.declared.item.Item.TheVariants as items
use Rattle.project.specs.declared.neighbour.Neighbour.{Neighbour}
use Rattle.project.specs.declared.neighbour.Neighbour.TheVariants.{Nobody, Hider, Hidden}
use Rattle.project.specs.Callables.{callables}
use Rattle.project.specs.Files.{FileMap, is_hidden, is_hidden_by, text_of}
use Rattle.project.specs.Items.{FileParts}
use Rattle.project.specs.Modules.{Placed, callables_in, module_in, module_of_item, modules, name_at}
use Rattle.project.specs.Paths.{neighbour_of}
use Rattle.journal.specs.Journal.{over}
use Rattle.cut_form.specs.declared.bodies.Body.{Body}
use Rattle.cut_form.specs.Answers.{◌>>=◌}
use Rattle.cut_form.specs.Bodies.{app_of}
use Rattle.cut_form.specs.Configuration.{is_config}
use Rattle.cut_form.specs.Declarations.{are_models}
use Rattle.cut_form.specs.Reports.{config_path, models_path, app_path, is_known, are_known, is_config_item, is_models_item, fits, body_in, body_at, others_fit, form_of, report_parts, has_rules, places_of, report_of}
use Rattle.check_stream_laws.proofs.Shown.{Shown, A_module, Models, A_config, seen, ShownFile, seen_file, shown, Alike, alike-get}

-- ---- text and files

text-sum : (n : ℕ) (es : List (Bytes × FileParts)) → fold (λ a (e : Bytes × FileParts). a + e.1.len) n es ≡ fold (λ a (e : Bytes × ShownFile). a + e.1.len) n (shown es)
text-sum n [] = refl
text-sum n (e ∷ es) = text-sum (n + e.1.len) es

pub alike-text : (f g : FileMap) → Alike f g → text_of f ≡ text_of g
unfolding text_of
alike-text f g h = text-sum 0 (entries f) ∙ ap (fold (λ a (e : Bytes × ShownFile). a + e.1.len) 0) h ∙ sym (text-sum 0 (entries g))

count : (es : List (Bytes × FileParts)) → length es ≡ length (shown es)
count [] = refl
count (e ∷ es) = ap (λ n. suc n) (count es)

pub alike-len : (f g : FileMap) → Alike f g → len f ≡ len g
alike-len f g h = len-entries f ∙ count (entries f) ∙ ap length h ∙ sym (count (entries g)) ∙ sym (len-entries g)

seen-some : (o : Option FileParts) → is_some o ≡ is_some (option_map seen_file o)
seen-some None = refl
seen-some (Some x) = refl

pub alike-has : (f g : FileMap) (k : Bytes) → Alike f g → contains_key f k ≡ contains_key g k
alike-has f g k h = seen-some (get f k) ∙ ap is_some (alike-get f g k h) ∙ sym (seen-some (get g k))

-- ---- modules

hidden-by : (f g : FileMap) (n : Neighbour) → Alike f g → is_hidden_by f n ≡ is_hidden_by g n
hidden-by f g (Hider init) h = alike-has f g init h
hidden-by f g (Hidden plain) h = refl
hidden-by f g Nobody h = refl

abbrev shown_module : Bytes → Shown → Option Placed
shown_module path (A_module kept) = Some (name_at path, path, kept)
shown_module path (Models decls) = None
shown_module path (A_config config) = None

item-module : (path : Bytes) (item : Item) → module_of_item path item ≡ shown_module path (seen item)
item-module path (items.Module parsed) = refl
item-module path (items.Models decls) = refl
item-module path (items.Config config) = refl

abbrev modules_seen : FileMap → List (Bytes × ShownFile) → List Placed
modules_seen f = filter_map (λ e. if is_hidden f e.0 then None else shown_module e.0 e.1.item)

modules-shown : (f : FileMap) (es : List (Bytes × FileParts)) → filter_map (module_in f) es ≡ modules_seen f (shown es)
modules-shown f [] = refl
modules-shown f (e ∷ es) =
    ap (λ o. cons_option (if is_hidden f e.0 then None else o) (filter_map (module_in f) es)) (item-module e.0 e.1.item)
    ∙ ap (λ ms. cons_option (if is_hidden f e.0 then None else shown_module e.0 (seen e.1.item)) ms) (modules-shown f es)

modules-alike : (f g : FileMap) → Alike f g → (es : List (Bytes × ShownFile)) → modules_seen f es ≡ modules_seen g es
modules-alike f g h [] = refl
modules-alike f g h (e ∷ es) =
    ap (λ b. cons_option (if b then None else shown_module e.0 e.1.item) (modules_seen f es)) (hidden-by f g (neighbour_of e.0) h)
    ∙ ap (λ ms. cons_option (if is_hidden g e.0 then None else shown_module e.0 e.1.item) ms) (modules-alike f g h es)

alike-modules : (f g : FileMap) → Alike f g → modules f ≡ modules g
alike-modules f g h = modules-shown f (entries f) ∙ ap (modules_seen f) h ∙ modules-alike f g h (shown (entries g)) ∙ sym (modules-shown g (entries g))

pub alike-callables : (f g : FileMap) → Alike f g → callables_in f ≡ callables_in g
unfolding callables_in
alike-callables f g h = ap (sum_by (λ (m : Placed). callables m.2.tree)) (alike-modules f g h)

pub alike-over : (f g : FileMap) → Alike f g → over f ≡ over g
alike-over f g h =
    let files = alike-len f g h in
    let text = alike-text f g h in
    let count = alike-callables f g h in
    cc (files, text, count)

-- ---- reports

known-shown : (es : List (Bytes × FileParts)) → list_all (λ (e : Bytes × FileParts). is_known e.0) es ≡ list_all (λ (e : Bytes × ShownFile). is_known e.0) (shown es)
known-shown [] = refl
known-shown (e ∷ es) = ap (λ b. is_known e.0 && b) (known-shown es)

alike-known : (f g : FileMap) → Alike f g → are_known f ≡ are_known g
alike-known f g h = known-shown (entries f) ∙ ap (list_all (λ (e : Bytes × ShownFile). is_known e.0)) h ∙ sym (known-shown (entries g))

abbrev shown_config : Shown → Bool
shown_config (A_config c) = is_config c
shown_config _ = false

config-shown : (item : Item) → is_config_item item ≡ shown_config (seen item)
config-shown (items.Module a) = refl
config-shown (items.Models a) = refl
config-shown (items.Config a) = refl

abbrev shown_models : Shown → Bool
shown_models (Models decls) = are_models decls
shown_models _ = false

models-shown : (item : Item) → is_models_item item ≡ shown_models (seen item)
models-shown (items.Module a) = refl
models-shown (items.Models a) = refl
models-shown (items.Config a) = refl

abbrev fits_shown : (Shown → Bool) → Option ShownFile → Bool
fits_shown property None = true
fits_shown property (Some file) = property file.item

fits-shown : (property : Item → Bool) (look : Shown → Bool) → ((item : Item) → property item ≡ look (seen item)) → (o : Option FileParts) → fits property o ≡ fits_shown look (option_map seen_file o)
fits-shown property look same None = refl
fits-shown property look same (Some file) = same file.item

alike-fits : (property : Item → Bool) (look : Shown → Bool) → ((item : Item) → property item ≡ look (seen item)) → (f g : FileMap) (path : Bytes) → Alike f g → fits property (get f path) ≡ fits property (get g path)
alike-fits property look same f g path h = fits-shown property look same (get f path) ∙ ap (fits_shown look) (alike-get f g path h) ∙ sym (fits-shown property look same (get g path))

abbrev shown_body : Shown → Option Body
shown_body (A_module kept) = app_of kept.tree
shown_body _ = None

body-shown : (item : Item) → body_in item ≡ shown_body (seen item)
body-shown (items.Module a) = refl
body-shown (items.Models a) = refl
body-shown (items.Config a) = refl

abbrev body_seen : Option ShownFile → Option Body
body_seen None = Some (record { function = []; places = [] })
body_seen (Some file) = shown_body file.item

body-at : (o : Option FileParts) → body_at o ≡ body_seen (option_map seen_file o)
body-at None = refl
body-at (Some file) = body-shown file.item

alike-body : (f g : FileMap) → Alike f g → body_at (get f app_path) ≡ body_at (get g app_path)
alike-body f g h = body-at (get f app_path) ∙ ap body_seen (alike-get f g app_path h) ∙ sym (body-at (get g app_path))

both-same : (a b c d : Bool) → a ≡ b → c ≡ d → (a && c) ≡ (b && d)
both-same a b c d e f = ap (λ x. x && c) e ∙ ap (λ x. b && x) f

alike-others : (f g : FileMap) → Alike f g → others_fit f ≡ others_fit g
alike-others f g h =
    both-same (are_known f && fits is_config_item (get f config_path)) (are_known g && fits is_config_item (get g config_path)) (fits is_models_item (get f models_path)) (fits is_models_item (get g models_path))
    (both-same (are_known f) (are_known g) (fits is_config_item (get f config_path)) (fits is_config_item (get g config_path)) (alike-known f g h) (alike-fits is_config_item shown_config config-shown f g config_path h))
    (alike-fits is_models_item shown_models models-shown f g models_path h)

alike-form : (f g : FileMap) → Alike f g → form_of f ≡ form_of g
unfolding form_of
alike-form f g h = ap (λ b. if b then body_at (get f app_path) else None) (alike-others f g h) ∙ ap (λ o. if others_fit g then o else None) (alike-body f g h)

alike-rules : (f g : FileMap) → Alike f g → has_rules f ≡ has_rules g
alike-rules f g h =
    both-same (contains_key f config_path) (contains_key g config_path) (contains_key f models_path) (contains_key g models_path) (alike-has f g config_path h) (alike-has f g models_path h)

pub alike-report : (f g : FileMap) → Alike f g → report_of f ≡ report_of g
unfolding report_of
alike-report f g h =
    ap (λ (b : Bool). form_of f >>= λ body. Some (report_parts body.function (if b then body.places else []))) (alike-rules f g h)
    ∙ ap (λ (o : Option Body). o >>= λ body. Some (report_parts body.function (places_of g body))) (alike-form f g h)
