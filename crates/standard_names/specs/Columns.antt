-- The columns of holdings tables (NISO RP-9-2014).
use Rattle.std.specs.Prelude.{List, [], ◌∷◌, ◌++◌, codes}
use Rattle.text_model.specs.Texts.{Text}

-- the columns for serials and monographs, in their order
abbrev pub column_names : List Text
column_names =
    codes "publication_title" ∷ codes "print_identifier" ∷ codes "online_identifier" ∷ codes "date_first_issue_online" ∷
    codes "num_first_vol_online" ∷ codes "num_first_issue_online" ∷ codes "date_last_issue_online" ∷ codes "num_last_vol_online" ∷
    codes "num_last_issue_online" ∷ codes "title_url" ∷ codes "first_author" ∷ codes "title_id" ∷ codes "embargo_info" ∷ codes "coverage_depth" ∷
    codes "notes" ∷ codes "publisher_name" ∷ codes "publication_type" ∷ codes "date_monograph_published_print" ∷
    codes "date_monograph_published_online" ∷ codes "monograph_volume" ∷ codes "monograph_edition" ∷ codes "first_editor" ∷
    codes "parent_publication_title_id" ∷ codes "preceding_publication_title_id" ∷ codes "access_type" ∷ []

-- the columns that are added when a table is prepared, to the day: from when, and until when, readers have access
abbrev pub prepared_columns : List Text
prepared_columns = codes "coverage_from" ∷ codes "coverage_to" ∷ []

-- all columns that have a meaning for the resolver or its front door
abbrev pub known_columns : List Text
known_columns = column_names ++ prepared_columns
